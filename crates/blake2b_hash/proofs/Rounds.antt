-- One round after another.
use Rattle.std.proofs.Common.{◌≡◌, ℕ, suc, ◌%◌, List, [], map, get_or, slice_index, ap, ◌∙◌, refl}
use Rattle.blake2b_hash.specs.Blake2b.{SIGMA, round, rounds}

-- no round yet
pub rounds-zero : (v m : List ℕ) → v ≡ rounds 0 v m
unfolding rounds
rounds-zero v m = refl

-- s is one round after r
pub rounds-suc : (i : ℕ) (v m r s x : List ℕ) → r ≡ rounds i v m → x ≡ map (slice_index m) (get_or SIGMA (i % 10) [])
    → s ≡ round r x → s ≡ rounds (suc i) v m
unfolding rounds
rounds-suc i v m r s x before words next =
    next ∙ ap (λ (r : List ℕ). round r x) before ∙ ap (λ (x : List ℕ). round (rounds i v m) x) words
