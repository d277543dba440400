use Rattle.std.proofs.Common.{◌≡◌, ℕ, ◌*◌, ◌/◌, ◌%◌, ◌^◌, List, ◌++◌, length, take}
use Rattle.blake2b_hash.specs.Blake2b.{state_after}
use Rattle.blake2b_hash.proofs.hasher.compress_all.Given as goal

-- the state after the blocks so far
abbrev pub invariant-loop-at : goal.invariant-loop-at
invariant-loop-at l = (i x : List ℕ) → length x % 128 ≡ 0 → l.total ≡ length x % 2 ^ 128 → l.fn.h ≡ state_after i x (length x / 128)
    → l.h ≡ state_after i (x ++ take (128 * l.at) l.blocks) (length (x ++ take (128 * l.at) l.blocks) / 128)
