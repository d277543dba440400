use Rattle.std.proofs.Common.{refl, arith}
use Rattle.bit_field.specs.Words.{set_of}
use Rattle.bit_field.proofs.Kept.{new_kept}
use Rattle.bit_field.proofs.bits.Bits.none.Goals as goal

pub invariant_of-result : goal.invariant_of-result
invariant_of-result c = new_kept c.new.result.items 0 c.new.ensures.items (omega arith)

pub returns : goal.returns
unfolding set_of
returns c = refl
