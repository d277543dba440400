use Rattle.std.proofs.Common.{[]}
use Rattle.core_disk.proofs.NewStore.{new_header_is}
use Rattle.core_disk.proofs.parts.new_header.Goals as goal

pub returns : goal.returns
returns c = new_header_is c.args.id.now c.finalize256.result c.new.result c.new.ensures (c.finalize256.ensures.hash [] c.new256.ensures)
