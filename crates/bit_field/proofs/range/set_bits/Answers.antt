use Rattle.bit_field.proofs.Masks.{or_run, and_not_run}
use Rattle.bit_field.proofs.range.set_bits.Goals as goal

pub returns-then-bit : goal.returns-then-bit
returns-then-bit c k small = or_run _ _ _ _ k _ c.mask-mask.ensures c.if-bit.true

pub returns-else-bit : goal.returns-else-bit
returns-else-bit c k small = and_not_run _ _ _ _ k _ c.mask-mask.ensures c.if-bit.false c.requires.within small
