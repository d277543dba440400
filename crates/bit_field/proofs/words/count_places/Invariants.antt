use Rattle.std.proofs.Common.{◌≡◌, ◌*◌}
use Rattle.bit_field.specs.Places.{count_below}
use Rattle.bit_field.specs.Words.{in_words}
use Rattle.bit_field.proofs.words.count_places.Given as goal

abbrev pub invariant-loop-word : goal.invariant-loop-word
invariant-loop-word l = l.count ≡ count_below (in_words l.words) (64 * l.word-index)
