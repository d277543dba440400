-- The fewest subtrees that have the blocks of a range, left to right.
use Rattle.std.specs.Prelude.{ℕ, zero, suc, Bool, List, [], ◌∷◌, ◌+◌, ◌-◌, ◌/◌, ◌%◌, ◌^◌, ◌&&◌, if◌then◌else◌, nat_eq, nat_le, nat_lt}
use Rattle.flat_tree.specs.Subtrees.{Subtree, subtree}

-- a subtree of this depth begins at the first block and ends within the range
abbrev pub fits_at : ℕ → ℕ → ℕ → Bool
fits_at depth from to = nat_eq (from % 2 ^ depth) 0 && nat_le (from + 2 ^ depth) to

-- the largest such depth up to a bound
unfoldable pub largest_up_to : ℕ → ℕ → ℕ → ℕ
largest_up_to zero from to = 0
largest_up_to (suc depth) from to =
    let smaller = largest_up_to depth from to in
    if fits_at (suc depth) from to then suc depth else smaller

-- the depth of the largest subtree that begins at the first block and ends within the range
abbrev pub depth_at : ℕ → ℕ → ℕ
depth_at from to = largest_up_to (to - from) from to

-- at each place the largest subtree that begins there and ends within the range, so many times at most
unfoldable pub cover_in : ℕ → ℕ → ℕ → List Subtree
cover_in zero from to = []
cover_in (suc steps) from to =
    let depth = depth_at from to in
    let rest = cover_in steps (from + 2 ^ depth) to in
    if nat_lt from to then subtree depth (from / 2 ^ depth) ∷ rest else []

-- a range has no more subtrees than blocks
unfoldable pub cover_of : ℕ → ℕ → List Subtree
cover_of from to = cover_in (to - from) from to
