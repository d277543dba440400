-- Worked values of the definitions, in flat-tree's numbers.
use Rattle.std.proofs.Common.{◌≡◌, [], ◌∷◌, refl}
use Rattle.std.specs.Int.Count.{count_trailing_zeros}
use Rattle.flat_tree.specs.Subtrees.{subtree, number, numbers_of}
use Rattle.flat_tree.specs.Covers.{largest_up_to, cover_in, cover_of}
use Rattle.root_stack.specs.Made.{ending_with, made_by}

-- block 3 is the last of two blocks, and of four
leaf_3_ends_three : ending_with (subtree 0 3) ≡ subtree 0 3 ∷ subtree 1 1 ∷ subtree 2 0 ∷ []
unfolding count_trailing_zeros
leaf_3_ends_three = refl

-- and so are the blocks 2 and 3
pair_1_ends_two : ending_with (subtree 1 1) ≡ subtree 1 1 ∷ subtree 2 0 ∷ []
unfolding count_trailing_zeros
pair_1_ends_two = refl

-- a left half ends alone
pair_2_ends_itself : ending_with (subtree 1 2) ≡ subtree 1 2 ∷ []
unfolding count_trailing_zeros
pair_2_ends_itself = refl

-- from three blocks to eight: block 3, and blocks 4 to 7
made_from_3_to_8 : numbers_of (made_by (cover_of 3 8)) ≡ 6 ∷ 5 ∷ 3 ∷ 11 ∷ 7 ∷ []
unfolding number count_trailing_zeros largest_up_to cover_in cover_of
made_from_3_to_8 = refl

-- in two parts: block 3 and block 4, and then 5, and 6 with 7
made_over_5 : numbers_of (made_by (cover_of 3 5)) ≡ 6 ∷ 5 ∷ 3 ∷ 8 ∷ []
unfolding number count_trailing_zeros largest_up_to cover_in cover_of
made_over_5 = refl

made_from_5 : numbers_of (made_by (cover_of 5 8)) ≡ 10 ∷ 9 ∷ 13 ∷ 11 ∷ 7 ∷ []
unfolding number count_trailing_zeros largest_up_to cover_in cover_of
made_from_5 = refl

-- from no block to seven: the full roots alone
made_from_0_to_7 : numbers_of (made_by (cover_of 0 7)) ≡ 3 ∷ 9 ∷ 12 ∷ []
unfolding number count_trailing_zeros largest_up_to cover_in cover_of
made_from_0_to_7 = refl
