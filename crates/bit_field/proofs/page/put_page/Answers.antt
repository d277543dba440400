use Rattle.std.proofs.Common.{◌*◌, ℕ, replicate, ◌∙◌, sym, ap, arith}
use Rattle.bit_field.specs.declared.page.TheConstants.{PAGE_BYTES, PAGE_PLACES}
use Rattle.bit_field.specs.Words.{in_words}
use Rattle.bit_field.proofs.Bytes.{bytes_from-unset}
use Rattle.bit_field.proofs.WordBytes.{none_past}
use Rattle.bit_field.proofs.page.put_page.Goals as goal

pub returns-else-number-words : goal.returns-else-number-words
returns-else-number-words c =
    c.fill.ensures.after (λ y e. e)
    ∙ ap (λ (n : ℕ). replicate n 0) c.requires.whole
    ∙ sym (bytes_from-unset PAGE_BYTES (in_words c.args.words.now) (c.args.number * PAGE_PLACES) (λ place ge. none_past c.args.words.now place (omega arith)))
