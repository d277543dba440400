-- A worked case: another log under a greater fork, with a block of it and a node.
use Rattle.std.proofs.Common.{◌≡◌, ℕ, Bool, true, List, [], ◌∷◌, map, codes, Some, None, replicate, refl}
use Rattle.blake2b_hash.specs.Blake2b.{G, round, rounds, F, words, state_after, last_state, blake2b, hash_of}
use Rattle.flat_tree.specs.Subtrees.{number, end_block_of, first_block_of}
use Rattle.flat_tree.specs.Roots.{full_roots_of, roots_below, place_past, depth_past}
use Rattle.flat_tree.specs.Covers.{cover_of, cover_in, largest_up_to}
use Rattle.merkle_nodes.specs.Tree.{tree_of}
use Rattle.merkle_nodes.specs.Roots.{node_of}
use Rattle.merkle_nodes.specs.Joined.{joined, value_in}
use Rattle.merkle_nodes.specs.Fold.{fold_from}
use Rattle.commit_book.specs.declared.commit.Commit.TheVariants.{ReorgFetch}
use Rattle.proof_form.specs.declared.request.Request.{Request}
use Rattle.proof_form.specs.Proofs.{Proof}
use Rattle.node_set.specs.Contents.{Content, start}
use Rattle.node_set.specs.Closure.{any_under}
use Rattle.node_set.specs.Changes.{append_content}
use Rattle.node_set.specs.Offsets.{levels_to, left_bytes}
use Rattle.core_forks.specs.Reorganise.{kept_under}
use Rattle.proof_make.specs.Answers.{made}
use Rattle.proof_check.specs.Judge.{refusal_of, commit_of}

abbrev all : List ℕ → List ℕ → Bool
all text signature = true

abbrev letters : List ℕ → List (List ℕ)
letters text = map (λ byte. byte ∷ []) text

-- a log of four blocks, and a content of one of two others
abbrev four : List (List ℕ)
four = letters (codes "cdef")

abbrev two : Content
two = append_content (letters (codes "ab")) (replicate 64 1) start

-- block 2, node 1 and the whole log
abbrev asked : Request
asked = record {
  fork = 1;
  block = Some (record { index = 2; nodes = 2 });
  hash = Some (record { index = 1; nodes = 1 });
  seek = None;
  upgrade = Some (record { start = 0; length = 4 });
}

abbrev answer : Proof
answer = record {
  fork = 1;
  block = Some (record { index = 2; bytes = codes "e"; trail = tree_of four 0 3 ∷ tree_of four 1 0 ∷ [] });
  hash = Some (record { node = node_of 1 0 (tree_of four 1 0); trail = tree_of four 1 1 ∷ [] });
  seek = None;
  upgrade = Some (record { start = 0; length = 4; nodes = tree_of four 2 0 ∷ []; signature = replicate 64 1 });
}

-- the answer is what the holder of the four makes
pub made_of_four : made four 1 (replicate 64 1) asked ≡ Some answer
unfolding joined any_under end_block_of full_roots_of roots_below depth_past cover_of cover_in largest_up_to number lib.Count.count_trailing_zeros
made_of_four = refl

-- the answer is admitted, and no block of the two is kept
pub four_replace_two : (refusal_of all answer two ≡ None) × (commit_of answer two ≡ Some (ReorgFetch 1 4 0 2))
unfolding joined value_in any_under end_block_of first_block_of cover_of cover_in largest_up_to full_roots_of roots_below kept_under depth_past place_past left_bytes levels_to fold_from tree_of number G round rounds F words state_after last_state blake2b hash_of lib.Count.count_trailing_zeros
four_replace_two = (refl, refl)
