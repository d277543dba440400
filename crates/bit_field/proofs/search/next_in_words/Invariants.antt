use Rattle.std.proofs.Common.{◌*◌, not}
use Rattle.bit_field.specs.Places.{AllHave}
use Rattle.bit_field.specs.Words.{in_words}
use Rattle.bit_field.proofs.search.next_in_words.Given as goal

-- no word so far has a place with the bit
abbrev pub invariant-loop-at : goal.invariant-loop-at
invariant-loop-at l = AllHave (not l.bit) (64 * l.first) (64 * l.at) (in_words l.words)
