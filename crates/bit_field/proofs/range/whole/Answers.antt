use Rattle.std.proofs.Common.{◌∙◌, sym}
use Rattle.bit_field.proofs.Masks.{all_ones}
use Rattle.bit_field.proofs.range.whole.Goals as goal

pub returns-then-bit : goal.returns-then-bit
returns-then-bit c k small = all_ones k small ∙ sym c.if-bit.true
