-- Values of subtrees that are put together of known ones: what an append or an upgrade makes of a tree.
use Rattle.std.specs.Prelude.{ℕ, zero, suc, ◌+◌, ◌*◌, ◌-◌, ◌<◌, List, [], ◌∷◌, Option, None, Some, slice_index_or, slice_get, length, nat_le, nat_lt, nat_eq, ◌&&◌, if◌then◌else◌}
use Rattle.flat_tree.specs.Subtrees.{Subtree, end_block_of}
use Rattle.merkle_nodes.specs.declared.node.Twig.{Twig}
use Rattle.merkle_nodes.specs.Tree.{leaf_of, parent_of}

-- sizes and hashes by depth and offset, of the subtrees that have them
abbrev pub Values : Type 0
Values = ℕ → ℕ → Option Twig

-- the parent of two halves, where both have a value
abbrev pub parent_if : Option Twig → Option Twig → Option Twig
parent_if (Some left) (Some right) = Some (parent_of left right)
parent_if _ _ = None

-- the value, or else the other one
abbrev pub or_value : Option Twig → Option Twig → Option Twig
or_value (Some twig) other = Some twig
or_value None other = other

-- the joined value of a subtree: its known one, else the parent of its halves' joined values
unfoldable pub joined : Values → ℕ → ℕ → Option Twig
joined known zero offset = known zero offset
joined known (suc depth) offset =
    or_value (known (suc depth) offset) (parent_if (joined known depth (2 * offset)) (joined known depth (2 * offset + 1)))

-- the leaves of some blocks that stand from an index on
abbrev pub leaves_from : ℕ → List (List ℕ) → Values
leaves_from start blocks zero offset =
    if nat_le start offset && nat_lt offset (start + length blocks) then Some (leaf_of (slice_index_or blocks (offset - start) [])) else None
leaves_from start blocks (suc depth) offset = None

-- the old values of the subtrees below a length, and the leaves of the blocks behind it
abbrev pub with_blocks : ℕ → Values → List (List ℕ) → Values
with_blocks length old blocks depth offset =
    if nat_le (end_block_of depth offset) length then old depth offset else leaves_from length blocks depth offset

-- the value of a subtree that stands in a list, beside a list of their values
unfoldable pub value_in : List Subtree → List Twig → Values
value_in (tree ∷ trees) (twig ∷ twigs) depth offset =
    let rest = value_in trees twigs depth offset in
    if nat_eq tree.depth depth && nat_eq tree.offset offset then Some twig else rest
value_in _ _ depth offset = None

-- the old values of the subtrees below a length, and those of subtrees behind it
abbrev pub with_parts : ℕ → Values → List Subtree → List Twig → Values
with_parts length old trees twigs depth offset =
    if nat_le (end_block_of depth offset) length then old depth offset else value_in trees twigs depth offset
