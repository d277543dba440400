use Rattle.std.proofs.Common.{◌≡◌, ◌+◌, ◌*◌, ◌<◌, ℕ, get_or}
use Rattle.bit_field.specs.Pages.{byte_at}
use Rattle.bit_field.specs.Words.{in_words}
use Rattle.bit_field.proofs.page.put_words.Given as goal

-- each byte so far
abbrev pub invariant-loop-at : goal.invariant-loop-at
invariant-loop-at l = (k : ℕ) → k < 8 * l.at → get_or l.out k 0 ≡ byte_at (in_words l.words) (64 * l.first + 8 * k)
