use Rattle.std.proofs.Common.{◌≡◌, ℕ, ◌-◌, length, take, drop, replicate, ◌∙◌, ap, arith, rules, length-take, length-drop}
use Rattle.bit_field.proofs.Parts.{set_in_words}
use Rattle.bit_field.proofs.range.set_words.Goals as goal

pub returns : goal.returns
returns c =
    let words = c.args.words.now in
    let count : length (take (c.args.last - c.args.first) (drop c.args.first words)) ≡ c.args.last - c.args.first =
    omega (arith, length-take (c.args.last - c.args.first) (drop c.args.first words), length-drop c.args.first words) in
    let filled = c.fill.ensures.after (λ y clone. search rules) ∙ ap (λ (n : ℕ). replicate n c.whole.result) count in
    set_in_words words _ c.args.first c.args.last _ c.args.bit c.requires.ordered c.requires.within filled c.whole.ensures
