-- Worked cases of contents.
use Rattle.std.proofs.Common.{◌≡◌, ℕ, List, [], ◌∷◌, map, codes, Some, None, is_some, true, false, replicate, if◌then◌else◌, refl}
use Rattle.std.specs.List.{flat_map}
use Rattle.flat_tree.specs.Subtrees.{number, end_block_of}
use Rattle.flat_tree.specs.Roots.{full_roots_of, roots_below, place_past, depth_past}
use Rattle.flat_tree.specs.Covers.{cover_of, cover_in, largest_up_to}
use Rattle.merkle_nodes.specs.Sound.{below}
use Rattle.merkle_nodes.specs.Joined.{joined, value_in}
use Rattle.node_set.specs.Contents.{Content, start, no_twig}
use Rattle.node_set.specs.Closure.{any_under}
use Rattle.node_set.specs.Changes.{append_content, truncate_content, clear_content, upgrade_content, blocks_with_one, content_on}
use Rattle.merkle_nodes.specs.declared.node.Node.{Node}
use Rattle.node_set.specs.Nodes.{NodePages, nodes_in, has_place, value_at, values_of, with_nodes}
use Rattle.node_set.specs.Offsets.{levels_to, need_of, left_bytes, offset_of, spot_below, seek_at}

-- the numbers of the stored nodes, by depth
abbrev stored : Content → List ℕ
stored m = flat_map (λ depth. flat_map (λ offset. if is_some (m.node depth offset) then number depth offset ∷ [] else []) (below 8)) (below 4)

-- a log of seven blocks, all held
abbrev seven : Content
seven = append_content (map (λ byte. byte ∷ []) (codes "abcdefg")) (replicate 64 1) start

-- all nodes of seven blocks
pub seven_stores : stored seven ≡ 0 ∷ 2 ∷ 4 ∷ 6 ∷ 8 ∷ 10 ∷ 12 ∷ 1 ∷ 5 ∷ 9 ∷ 3 ∷ []
unfolding joined any_under end_block_of number
seven_stores = refl

-- two held blocks leave the roots and their paths
pub cleared_stores : stored (clear_content 2 7 seven) ≡ 0 ∷ 2 ∷ 12 ∷ 1 ∷ 5 ∷ 9 ∷ 3 ∷ []
unfolding joined any_under end_block_of number
cleared_stores = refl

-- then a root of length 5 isn't stored, and those of length 4 are
pub cleared_lacks : (clear_content 2 7 seven).node 0 4 ≡ None
unfolding joined any_under end_block_of
cleared_lacks = refl

pub cut_stores : stored (truncate_content 4 1 (replicate 64 2) (clear_content 2 7 seven)) ≡ 0 ∷ 2 ∷ 1 ∷ 5 ∷ 3 ∷ []
unfolding joined any_under end_block_of number
cut_stores = refl

-- a log of eight blocks of which nothing is held
abbrev upgraded : Content
upgraded = upgrade_content 8 (no_twig ∷ []) (replicate 64 1) start

pub upgraded_stores : stored upgraded ≡ 7 ∷ []
unfolding joined value_in any_under end_block_of number cover_of cover_in largest_up_to
upgraded_stores = refl

pub block_5_needs : need_of upgraded 5 ≡ 3
unfolding joined value_in any_under end_block_of cover_of cover_in largest_up_to levels_to full_roots_of roots_below depth_past
block_5_needs = refl

-- the same with block 5
abbrev fetched : Content
fetched = content_on 0 8 (replicate 64 1) (blocks_with_one 5 (codes "f") upgraded.block) (λ depth offset. Some no_twig)

pub fetched_stores : stored fetched ≡ 8 ∷ 10 ∷ 9 ∷ 13 ∷ 3 ∷ 11 ∷ 7 ∷ []
unfolding joined any_under end_block_of number
fetched_stores = refl

pub blocks_4_and_0_need : (need_of fetched 4 ≡ 0) × (need_of fetched 0 ≡ 2)
unfolding joined any_under end_block_of levels_to full_roots_of roots_below depth_past
blocks_4_and_0_need = (refl, refl)

-- blocks of 3, 0 and 4 bytes
abbrev sizes : Content
sizes = append_content (codes "abc" ∷ [] ∷ codes "defg" ∷ []) (replicate 64 1) start

pub blocks_begin : (offset_of sizes 0 ≡ 0) × (offset_of sizes 1 ≡ 3) × (offset_of sizes 2 ≡ 3)
unfolding joined any_under end_block_of left_bytes full_roots_of roots_below depth_past place_past
blocks_begin = (refl, refl, refl)

pub bytes_are_in : (seek_at sizes 2 ≡ Some 0) × (seek_at sizes 3 ≡ Some 2) × (seek_at sizes 6 ≡ Some 2) × (seek_at sizes 7 ≡ None)
unfolding joined any_under end_block_of left_bytes full_roots_of roots_below depth_past place_past spot_below
bytes_are_in = (refl, refl, refl, refl)

-- and without the last
pub cleared_byte : (seek_at (clear_content 2 3 sizes) 3 ≡ None) × (seek_at (clear_content 2 3 sizes) 2 ≡ Some 0)
unfolding joined any_under end_block_of left_bytes full_roots_of roots_below depth_past place_past spot_below
cleared_byte = (refl, refl)

-- of two nodes with one number the later counts, and the others stay
abbrev sized_root : ℕ → Node
sized_root size = record { index = 7; size = size; hash = [] }

pub later_node_counts :
    (with_nodes upgraded.node (sized_root 1 ∷ sized_root 2 ∷ []) 3 0 ≡ Some (record { size = 2; hash = [] }))
    × (with_nodes upgraded.node (sized_root 1 ∷ []) 2 0 ≡ None)
unfolding with_nodes number joined value_in any_under end_block_of cover_of cover_in largest_up_to
later_node_counts = (refl, refl)

-- a page with no places, and one with two, of which one is taken
abbrev two_places : NodePages
two_places = nodes_in ([] ∷ (Some no_twig ∷ None ∷ []) ∷ [])

pub places_of_pages :
    (has_place two_places 0 ≡ false) × (has_place two_places 512 ≡ true) × (has_place two_places 513 ≡ true)
    × (has_place two_places 514 ≡ false) × (has_place two_places 1024 ≡ false)
places_of_pages = (refl, refl, refl, refl, refl)

pub values_of_pages :
    (value_at two_places 0 ≡ None) × (value_at two_places 512 ≡ Some no_twig) × (value_at two_places 513 ≡ None)
    × (value_at two_places 1024 ≡ None) × (values_of two_places 0 256 ≡ Some no_twig)
unfolding number
values_of_pages = (refl, refl, refl, refl, refl)
