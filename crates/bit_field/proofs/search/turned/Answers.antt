use Rattle.std.proofs.Common.{◌∙◌, sym, ap, not, cond}
use Rattle.bit_field.specs.Pages.{is_set}
use Rattle.bit_field.proofs.WordSearch.{not_word}
use Rattle.bit_field.proofs.search.turned.Goals as goal

pub returns-else-bit : goal.returns-else-bit
returns-else-bit c k small =
    not_word c.args.word k c.ranges.word.fits small
    ∙ sym (ap (λ b. cond b (is_set c.args.word k) (not (is_set c.args.word k))) c.if-bit.false)
