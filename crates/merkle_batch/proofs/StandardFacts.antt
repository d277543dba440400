-- Worked values of the definitions, and the bundle of a block by Python's hashlib.
use Rattle.std.proofs.Common.{◌≡◌, ℕ, zero, suc, List, [], ◌∷◌, length, map, codes, replicate, Some, refl}
use Rattle.std.specs.Int.Count.{count_trailing_zeros}
use Rattle.blake2b_hash.specs.Blake2b.{G, round, rounds, F, words, state_after, last_state, blake2b, hash_of}
use Rattle.flat_tree.specs.Subtrees.{subtree, number, numbers_of, end_block_of}
use Rattle.flat_tree.specs.Roots.{roots_below, full_roots_of, depth_past}
use Rattle.merkle_nodes.specs.declared.node.Twig.{Twig}
use Rattle.merkle_nodes.specs.Tree.{leaf_of, parent_of, tree_of}
use Rattle.merkle_nodes.specs.Bundle.{spelling}
use Rattle.merkle_nodes.specs.Joined.{joined}
use Rattle.merkle_batch.specs.Batch.{ending_with, made_with, grown}
use Rattle.merkle_batch.specs.Honest.{trail_of, honest_bundle}

block_3_ends_three_subtrees : ending_with 3 ≡ subtree 0 3 ∷ subtree 1 1 ∷ subtree 2 0 ∷ []
unfolding count_trailing_zeros
block_3_ends_three_subtrees = refl

block_4_ends_its_leaf : ending_with 4 ≡ subtree 0 4 ∷ []
unfolding count_trailing_zeros
block_4_ends_its_leaf = refl

-- the children of a node stand before it
nodes_of_seven_blocks : numbers_of (made_with 0 7) ≡ 0 ∷ 2 ∷ 1 ∷ 4 ∷ 6 ∷ 5 ∷ 3 ∷ 8 ∷ 10 ∷ 9 ∷ 12 ∷ []
unfolding number count_trailing_zeros
nodes_of_seven_blocks = refl

nodes_of_two_behind_three : numbers_of (made_with 3 2) ≡ 6 ∷ 5 ∷ 3 ∷ 8 ∷ []
unfolding number count_trailing_zeros
nodes_of_two_behind_three = refl

-- behind three blocks, whose roots are over two and over one, a fourth joins both
fourth_joins_both : (root last : Twig) (block : List ℕ) → grown 3 (λ depth offset. elim depth [ zero ↦ Some last | suc d ↦ Some root ]) (block ∷ []) 2 0
    ≡ Some (parent_of root (parent_of last (leaf_of block)))
unfolding joined end_block_of
fourth_joins_both root last block = refl

-- a log of seven blocks of one byte
abbrev seven_blocks : List (List ℕ)
seven_blocks = map (λ byte. byte ∷ []) (codes "abcdefg")

-- the third of them has the leaf after it and the parent of the two before
third_of_seven : trail_of seven_blocks 2
    ≡ record { size = 1; hash = (0x20 ∷ 0x91 ∷ 0x5c ∷ 0xf9 ∷ 0x5a ∷ 0x39 ∷ 0x1f ∷ 0xc2 ∷ 0xb1 ∷ 0x32 ∷ 0xd5 ∷ 0xb4 ∷ 0x81 ∷ 0xd1 ∷ 0xc2 ∷ 0x46 ∷ 0x73 ∷ 0x14 ∷ 0xcc ∷ 0x0f ∷ 0x2d ∷ 0x13 ∷ 0x5f ∷ 0x39 ∷ 0xf0 ∷ 0x60 ∷ 0xde ∷ 0xa9 ∷ 0x0b ∷ 0x9a ∷ 0x11 ∷ 0x8a ∷ []) }
    ∷ record { size = 2; hash = (0x9c ∷ 0xac ∷ 0x92 ∷ 0xaa ∷ 0xed ∷ 0x9e ∷ 0x7d ∷ 0x11 ∷ 0xeb ∷ 0x62 ∷ 0x94 ∷ 0x65 ∷ 0x68 ∷ 0x45 ∷ 0x82 ∷ 0xce ∷ 0x39 ∷ 0xcb ∷ 0x49 ∷ 0x63 ∷ 0x03 ∷ 0x99 ∷ 0x8d ∷ 0xe1 ∷ 0x23 ∷ 0x53 ∷ 0x3b ∷ 0x09 ∷ 0xe1 ∷ 0x6f ∷ 0x2f ∷ 0x06 ∷ []) } ∷ []
unfolding G round rounds F words state_after last_state blake2b hash_of tree_of roots_below full_roots_of depth_past end_block_of
third_of_seven = refl

-- the last of them is a root itself
last_of_seven : trail_of seven_blocks 6 ≡ []
unfolding roots_below full_roots_of depth_past end_block_of
last_of_seven = refl

-- the bytes of bundles
bytes_of_an_empty_block : length (spelling (honest_bundle ([] ∷ []) 0 (replicate 64 0))) ≡ 144
unfolding G round rounds F words state_after last_state blake2b hash_of tree_of roots_below full_roots_of number depth_past end_block_of spelling
bytes_of_an_empty_block = refl

bytes_of_the_first_of_seven : length (spelling (honest_bundle seven_blocks 0 (replicate 64 0))) ≡ 305
unfolding G round rounds F words state_after last_state blake2b hash_of tree_of roots_below full_roots_of number depth_past end_block_of spelling
bytes_of_the_first_of_seven = refl

bytes_of_the_last_of_seven : length (spelling (honest_bundle seven_blocks 6 (replicate 64 0))) ≡ 225
unfolding G round rounds F words state_after last_state blake2b hash_of tree_of roots_below full_roots_of number depth_past end_block_of spelling
bytes_of_the_last_of_seven = refl
