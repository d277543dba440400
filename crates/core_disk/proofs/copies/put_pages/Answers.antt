use Rattle.std.proofs.Common.{[], subst}
use Rattle.bit_field.specs.Places.{has}
use Rattle.blake2b_hash.specs.Hasher.{Holds}
use Rattle.core_disk.proofs.CopyLemmas.{no_bytes}
use Rattle.core_disk.proofs.copies.put_pages.Goals as goal

pub loop-number-init : goal.loop-number-init
loop-number-init c = subst (λ l. Holds 32 [] l c.args.hasher.now) (no_bytes (has c.args.held.now) c.args.bytes) c.requires.new
