-- Which nodes are to be stored for a log's length and its held blocks: the closure, as a test and in words.
use Rattle.std.specs.Prelude.{◌≡◌, ℕ, zero, suc, Bool, true, ◌+◌, ◌*◌, ◌/◌, ◌<◌, ◌≤◌, ◌⊎◌, not, ◌&&◌, ◌||◌, nat_le, if◌then◌else◌, None}
use Rattle.flat_tree.specs.Subtrees.{first_block_of, end_block_of}
use Rattle.merkle_nodes.specs.Joined.{Values}

-- the subtree has blocks below n alone
abbrev pub is_within : ℕ → ℕ → ℕ → Bool
is_within n depth offset = nat_le (end_block_of depth offset) n

-- the subtree is a full root of n
abbrev pub is_root : ℕ → ℕ → ℕ → Bool
is_root n depth offset = is_within n depth offset && not (is_within n (suc depth) (offset / 2))

-- some block of the subtree is held
unfoldable pub any_under : (ℕ → Bool) → ℕ → ℕ → Bool
any_under held zero offset = held offset
any_under held (suc depth) offset = any_under held depth (2 * offset) || any_under held depth (2 * offset + 1)

-- the subtree's node is to be stored: it is a full root, or a block under its parent is held
abbrev pub in_closure : ℕ → (ℕ → Bool) → ℕ → ℕ → Bool
in_closure n held depth offset =
    is_within n depth offset && (not (is_within n (suc depth) (offset / 2)) || any_under held (suc depth) (offset / 2))

-- the values of the closure alone
abbrev pub closed_on : ℕ → (ℕ → Bool) → Values → Values
closed_on n held value depth offset = if in_closure n held depth offset then value depth offset else None

-- the block is under the subtree
abbrev pub IsUnder : ℕ → ℕ → ℕ → Type 0
IsUnder index depth offset = (first_block_of depth offset ≤ index) × (index < end_block_of depth offset)

-- the subtree is a full root of n: within, and no larger one over it is
pub record IsFullRoot (n depth offset : ℕ) : Type 0 where
  pub within : end_block_of depth offset ≤ n
  pub largest : n < end_block_of (suc depth) (offset / 2)

-- the subtree is on the path of a held block below its root: it or its sibling is over the block, and so is their parent,
-- which is within the length
pub record IsByPath (n : ℕ) (held : ℕ → Bool) (depth offset : ℕ) : Type 0 where
  pub index : ℕ
  pub is_held : held index ≡ true
  pub parent_over : IsUnder index (suc depth) (offset / 2)
  pub parent_within : end_block_of (suc depth) (offset / 2) ≤ n

-- the closure in words: the full roots, and for each held block the nodes of its path and their siblings below its root
abbrev pub IsInClosure : ℕ → (ℕ → Bool) → ℕ → ℕ → Type 0
IsInClosure n held depth offset = IsFullRoot n depth offset ⊎ IsByPath n held depth offset

-- the subtree has blocks of from..to alone
abbrev pub is_between : ℕ → ℕ → ℕ → ℕ → Bool
is_between from to depth offset = nat_le from (first_block_of depth offset) && is_within to depth offset

-- the subtree is in the cover of from..to: it is within the range, and the one over it is not
abbrev pub in_cover : ℕ → ℕ → ℕ → ℕ → Bool
in_cover from to depth offset = is_between from to depth offset && not (is_between from to (suc depth) (offset / 2))
