-- Worked values of flat-tree's numbering: nodes, roots and covers. Last the numbers of the limits.
use Rattle.std.proofs.Common.{◌≡◌, [], ◌∷◌, refl}
use Rattle.flat_tree.specs.declared.limits.TheConstants.{MAX_BLOCKS, MAX_SIBLINGS, MAX_ROOTS, MAX_UPGRADE_NODES, MAX_FRESH_NODES, MAX_BLOCK_BYTES, MAX_CORE_BYTES, MAX_FORK, MAX_BATCH_BLOCKS, MAX_BATCH_BYTES, MAX_DEPTH, MAX_COUNT}
use Rattle.flat_tree.specs.Subtrees.{number, first_block_of, end_block_of, numbers_of}
use Rattle.flat_tree.specs.Roots.{full_roots_of, roots_below, place_past, depth_past, place_over, depth_over}
use Rattle.flat_tree.specs.Covers.{cover_of, cover_in, largest_up_to}

node_of_block_5 : number 0 5 ≡ 10
unfolding number
node_of_block_5 = refl

node_of_blocks_4_to_6 : (number 1 2 ≡ 9) × (first_block_of 1 2 ≡ 4) × (end_block_of 1 2 ≡ 6)
unfolding number first_block_of end_block_of
node_of_blocks_4_to_6 = (refl, refl, refl)

roots_of_0 : full_roots_of 0 ≡ []
unfolding full_roots_of roots_below
roots_of_0 = refl

roots_of_1 : numbers_of (full_roots_of 1) ≡ 0 ∷ []
unfolding full_roots_of roots_below number
roots_of_1 = refl

roots_of_7 : numbers_of (full_roots_of 7) ≡ 3 ∷ 9 ∷ 12 ∷ []
unfolding full_roots_of roots_below number
roots_of_7 = refl

roots_of_8 : numbers_of (full_roots_of 8) ≡ 7 ∷ []
unfolding full_roots_of roots_below number
roots_of_8 = refl

root_over_block_5_of_7 : (place_over 7 5 ≡ 1) × (depth_over 7 5 ≡ 1)
unfolding full_roots_of roots_below place_past depth_past end_block_of
root_over_block_5_of_7 = (refl, refl)

cover_of_5_to_8 : numbers_of (cover_of 5 8) ≡ 10 ∷ 13 ∷ []
unfolding cover_of cover_in largest_up_to number
cover_of_5_to_8 = refl

cover_of_6_to_12 : numbers_of (cover_of 6 12) ≡ 13 ∷ 19 ∷ []
unfolding cover_of cover_in largest_up_to number
cover_of_6_to_12 = refl

cover_of_nothing : cover_of 8 8 ≡ []
unfolding cover_of cover_in
cover_of_nothing = refl

cover_of_0_to_7 : numbers_of (cover_of 0 7) ≡ 3 ∷ 9 ∷ 12 ∷ []
unfolding cover_of cover_in largest_up_to number
cover_of_0_to_7 = refl

-- ---- limits

max_blocks_is : MAX_BLOCKS ≡ 1048576
max_blocks_is = refl

max_siblings_is : MAX_SIBLINGS ≡ 20
max_siblings_is = refl

max_roots_is : MAX_ROOTS ≡ 20
max_roots_is = refl

max_upgrade_nodes_is : MAX_UPGRADE_NODES ≡ 40
max_upgrade_nodes_is = refl

max_fresh_nodes_is : MAX_FRESH_NODES ≡ 128
max_fresh_nodes_is = refl

max_block_bytes_is : MAX_BLOCK_BYTES ≡ 1048576
max_block_bytes_is = refl

max_core_bytes_is : MAX_CORE_BYTES ≡ 1099511627776
max_core_bytes_is = refl

max_fork_is : MAX_FORK ≡ 4294967295
max_fork_is = refl

max_batch_blocks_is : MAX_BATCH_BLOCKS ≡ 1024
max_batch_blocks_is = refl

max_batch_bytes_is : MAX_BATCH_BYTES ≡ 8388608
max_batch_bytes_is = refl

max_depth_is : MAX_DEPTH ≡ 32
max_depth_is = refl

max_count_is : MAX_COUNT ≡ 4294967296
max_count_is = refl
