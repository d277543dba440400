-- Where blocks stand: levels up to the first stored node, a block's byte offset, and the block that has a byte.
use Rattle.std.specs.Prelude.{ℕ, zero, suc, Bool, ◌+◌, ◌-◌, ◌/◌, ◌%◌, ◌==◌, ◌&&◌, List, length, take, Option, Some, None, is_some, nat_le, nat_lt, if◌then◌else◌}
use Rattle.flat_tree.specs.Roots.{place_over, depth_over}
use Rattle.node_set.specs.Contents.{Content, Values, Blocks, twig_at, roots, bytes_under}

-- the levels from a node up to the first stored one, where one of so many is
unfoldable pub levels_to : ℕ → Values → ℕ → ℕ → ℕ
levels_to zero node depth offset = 0
levels_to (suc steps) node depth offset =
    let above = levels_to steps node (suc depth) (offset / 2) in
    if is_some (node depth offset) then 0 else suc above

-- the siblings that a block needs: the levels from its leaf up to the first stored node
abbrev pub need_of : Content → ℕ → ℕ
need_of m index = levels_to (depth_over m.length index) m.node 0 index

-- the bytes of a node's left sibling, none at a left half
abbrev pub left_step : Values → ℕ → ℕ → ℕ
left_step node depth offset = if offset % 2 == 1 then (twig_at node depth (offset - 1)).size else 0

-- the bytes of the left siblings on the way up from a node, so many levels
unfoldable pub left_bytes : ℕ → Values → ℕ → ℕ → ℕ
left_bytes zero node depth offset = 0
left_bytes (suc levels) node depth offset = left_step node depth offset + left_bytes levels node (suc depth) (offset / 2)

-- the bytes of the roots to the left of the one over a block
abbrev pub roots_left : Content → ℕ → ℕ
roots_left m index = bytes_under (take (place_over m.length index) (roots m))

-- the byte at which a held block begins
abbrev pub offset_of : Content → ℕ → ℕ
offset_of m index = roots_left m index + left_bytes (depth_over m.length index) m.node 0 index

-- the bytes of a held block
abbrev pub size_at : Blocks → ℕ → ℕ
size_at block index = SizeOr (block index)
  where
    SizeOr : Option (List ℕ) → ℕ
    SizeOr (Some bytes) = length bytes
    SizeOr None = 0

-- a held block has this byte
abbrev pub has_byte : Content → ℕ → ℕ → Bool
has_byte m byte index = is_some (m.block index) && nat_le (offset_of m index) byte && nat_lt byte (offset_of m index + size_at m.block index)

-- the first held block below an index that has a byte
unfoldable pub spot_below : ℕ → Content → ℕ → Option ℕ
spot_below zero m byte = None
spot_below (suc index) m byte =
    let before = spot_below index m byte in
    if is_some before then before else if has_byte m byte index then Some index else None

-- the held block that has a byte
abbrev pub seek_at : Content → ℕ → Option ℕ
seek_at m byte = spot_below m.length m byte
