use Rattle.std.proofs.Common.{arith}
use Rattle.core_disk.proofs.HeldLemmas.{clear_found}
use Rattle.bit_field.specs.Places.{has}
use Rattle.core_disk.proofs.in_range.may_clear.Goals as goal

pub returns : goal.returns
returns c = clear_found (has c.args.held.now) c.args.length c.args.from c.args.to c.first_in.result c.is_some.result (omega arith) (omega arith) c.first_in.ensures c.is_some.ensures
