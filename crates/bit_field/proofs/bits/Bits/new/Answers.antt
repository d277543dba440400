use Rattle.std.proofs.Common.{◌≡◌, ℕ, replicate, ◌∙◌, ap}
use Rattle.bit_field.specs.Words.{words_for}
use Rattle.bit_field.proofs.Kept.{new_kept, new_places, new_empty}
use Rattle.bit_field.proofs.bits.Bits.new.Goals as goal

made : (c : goal.In-Ok) → c.in-Ok.words.items ≡ replicate (words_for c.args.count) 0
made c = c.in-Ok.ensures.items_if_clones_equal (λ y e. e) ∙ ap (λ (n : ℕ). replicate n 0) c.words_of.ensures

pub invariant_of-result : goal.invariant_of-result
invariant_of-result c = new_kept c.in-Ok.words.items c.args.count (made c) c.requires.within

pub returns-in-Ok-clause-places : goal.returns-in-Ok-clause-places
returns-in-Ok-clause-places c = new_places c.in-Ok.words.items c.args.count (made c) c.requires.within

pub returns-in-Ok-clause-empty : goal.returns-in-Ok-clause-empty
returns-in-Ok-clause-empty c = new_empty c.in-Ok.words.items c.args.count (made c) c.requires.within
