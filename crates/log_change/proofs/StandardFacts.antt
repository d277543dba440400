-- Worked cases of changes: which nodes come in where another log takes the place of one, and where a log is cut.
use Rattle.std.proofs.Common.{◌≡◌, ℕ, false, true, List, [], ◌∷◌, map, codes, Some, None, replicate, refl}
use Rattle.blake2b_hash.specs.Blake2b.{G, round, rounds, F, words, state_after, last_state, blake2b, hash_of}
use Rattle.flat_tree.specs.Subtrees.{number, first_block_of, end_block_of}
use Rattle.flat_tree.specs.Roots.{full_roots_of, roots_below}
use Rattle.merkle_nodes.specs.declared.node.Node.{Node}
use Rattle.merkle_nodes.specs.declared.node.Twig.{Twig}
use Rattle.merkle_nodes.specs.declared.roots.Head.{Head}
use Rattle.merkle_nodes.specs.Joined.{joined, value_in}
use Rattle.merkle_nodes.specs.Roots.{node_of}
use Rattle.node_set.specs.Contents.{Content, start, twig_at, roots}
use Rattle.node_set.specs.Closure.{any_under}
use Rattle.node_set.specs.Nodes.{with_nodes}
use Rattle.node_set.specs.Changes.{append_content, truncate_content}
use Rattle.core_forks.specs.Reorganise.{kept_under, kept_of, reorganise_content}
use Rattle.core_forks.specs.Truncations.{fresh_roots}
use Rattle.log_change.specs.LogChange.{stays, content_after}
use Rattle.log_change.specs.Calls.{reorganisation}

-- logs whose blocks are one byte each, all held
abbrev letters : List ℕ → Content
letters text = append_content (map (λ byte. byte ∷ []) text) (replicate 64 1) start

-- another log of two blocks, whose root has this value
abbrev two : Head
two = record { fork = 1; length = 2; signature = replicate 64 2 }

abbrev other : Twig
other = twig_at (letters (codes "cd")).node 1 0

abbrev shorter : Twig
shorter = twig_at (letters (codes "abcd")).node 1 0

abbrev with_root : Twig → Content → Content
with_root twig m = reorganise_content 1 2 (twig ∷ []) (replicate 64 2) m

-- the root's number was that of a root, with another hash: nothing stays, and the root comes in
pub other_root : (kept_of (letters (codes "ab")) 2 (other ∷ []) ≡ 0)
    × (stays (letters (codes "ab")) (with_root other (letters (codes "ab"))) 1 0 ≡ false)
    × (fresh_roots (roots (letters (codes "ab"))) (node_of 1 0 other ∷ []) ≡ node_of 1 0 other ∷ [])
unfolding joined any_under first_block_of end_block_of number full_roots_of roots_below kept_under value_in G round rounds F words state_after last_state blake2b hash_of
other_root = (refl, refl, refl)

-- so the change leads to the root of the other log
pub other_root_stored : (content_after (reorganisation (letters (codes "ab")) two 0 (node_of 1 0 other ∷ [])) [] (node_of 1 0 other ∷ []) (letters (codes "ab"))).node 1 0
    ≡ Some other
unfolding joined any_under first_block_of end_block_of number full_roots_of roots_below with_nodes G round rounds F words state_after last_state blake2b hash_of
other_root_stored = refl

-- the root was a node below one: its blocks stay, and the root comes in, as each new root does
pub node_for_root : (kept_of (letters (codes "abcd")) 2 (shorter ∷ []) ≡ 2)
    × (stays (letters (codes "abcd")) (with_root shorter (letters (codes "abcd"))) 1 0 ≡ false)
    × (stays (letters (codes "abcd")) (with_root shorter (letters (codes "abcd"))) 0 0 ≡ true)
    × (fresh_roots (roots (letters (codes "abcd"))) (node_of 1 0 shorter ∷ []) ≡ node_of 1 0 shorter ∷ [])
unfolding joined any_under first_block_of end_block_of number full_roots_of roots_below kept_under value_in G round rounds F words state_after last_state blake2b hash_of
node_for_root = (refl, refl, refl, refl)

-- a root that was a root stays
pub root_stays : (stays (letters (codes "abc")) (truncate_content 2 1 [] (letters (codes "abc"))) 1 0 ≡ true)
    × (stays (letters (codes "abcd")) (truncate_content 2 1 [] (letters (codes "abcd"))) 1 0 ≡ false)
unfolding joined any_under first_block_of end_block_of number full_roots_of roots_below G round rounds F words state_after last_state blake2b hash_of
root_stays = (refl, refl)
