-- The way from a node up to the root over it.
use Rattle.std.specs.Prelude.{ℕ, ◌+◌, ◌-◌, ◌*◌, ◌/◌, ◌%◌, ◌^◌, ◌==◌, ◌&&◌, Bool, List, map, take, Some, None, is_some, nat_lt, slice_index_or, if◌then◌else◌}
use Rattle.std.specs.List.{range_with_len, list_all}
use Rattle.std.specs.Int.{w64, trailing_ones}
use Rattle.merkle_nodes.specs.declared.node.Twig.{Twig}
use Rattle.merkle_nodes.specs.Fold.{fold_from}
use Rattle.node_set.specs.Contents.{Values, no_twig, twig_at}

-- the depth of the subtree of a node's number
abbrev pub depth_of : ℕ → ℕ
depth_of number = trailing_ones w64 number

-- its offset
abbrev pub offset_of_node : ℕ → ℕ
offset_of_node number = number / 2 ^ (depth_of number + 1)

-- the offset of the other half under the same parent
abbrev pub sibling_of : ℕ → ℕ
sibling_of offset = offset + 1 - 2 * (offset % 2)

-- the levels below a number of them
abbrev pub levels : ℕ → List ℕ
levels = range_with_len 0

-- the lowest siblings of a node's path
abbrev pub trail_at : Values → ℕ → ℕ → ℕ → List Twig
trail_at value depth offset count = map (λ level. twig_at value (depth + level) (sibling_of (offset / 2 ^ level))) (levels count)

-- each of them has a value
abbrev pub has_trail : Values → ℕ → ℕ → ℕ → Bool
has_trail value depth offset count = list_all (λ level. is_some (value (depth + level) (sibling_of (offset / 2 ^ level)))) (levels count)

-- what a node and the siblings of its path fold to, so many levels above it
abbrev pub folded_at : ℕ → Twig → List Twig → ℕ → Twig
folded_at offset node trail level = fold_from offset node (take level trail)

-- the values that a node and the siblings of its path give, below a level: of the path itself, and of its siblings
abbrev pub path_values : ℕ → Twig → List Twig → ℕ → Values
path_values offset node trail below depth at =
    if nat_lt depth below && at == offset / 2 ^ depth then Some (folded_at offset node trail depth)
    else if nat_lt depth below && at == sibling_of (offset / 2 ^ depth) then Some (slice_index_or trail depth no_twig)
    else None
