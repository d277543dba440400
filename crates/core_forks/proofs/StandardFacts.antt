-- Worked cases of refused changes, and of logs under a greater fork.
use Rattle.std.proofs.Common.{◌≡◌, ◌+◌, ℕ, List, [], ◌∷◌, map, codes, Some, None, replicate, refl}
use Rattle.blake2b_hash.specs.Blake2b.{G, round, rounds, F, words, state_after, last_state, blake2b, hash_of}
use Rattle.flat_tree.specs.Subtrees.{number, end_block_of}
use Rattle.flat_tree.specs.Roots.{full_roots_of, roots_below}
use Rattle.merkle_nodes.specs.declared.node.Node.{Node}
use Rattle.merkle_nodes.specs.declared.node.Twig.{Twig}
use Rattle.merkle_nodes.specs.Joined.{joined}
use Rattle.node_set.specs.Contents.{Content, start, no_twig, twig_at, roots, roots_at}
use Rattle.node_set.specs.Closure.{any_under}
use Rattle.node_set.specs.declared.fault.CoreFault.TheVariants.{OutOfRange, Limit, OldFork, NoNode}
use Rattle.merkle_nodes.specs.declared.limit.What.TheVariants.{Fork}
use Rattle.node_set.specs.Changes.{append_content, truncate_content, clear_content}
use Rattle.core_forks.specs.Reorganise.{kept_under, kept_of}
use Rattle.core_forks.specs.Truncations.{fresh_roots}
use Rattle.core_forks.specs.Refusals.{first_missing, truncate_refusal, clear_refusal}
use Rattle.flat_tree.specs.declared.limits.TheConstants.{MAX_FORK}

-- logs whose blocks are one byte each, all held
abbrev letters : List ℕ → Content
letters text = append_content (map (λ byte. byte ∷ []) text) (replicate 64 1) start

abbrev cleared : Content
cleared = clear_content 2 7 (letters (codes "abcdefg"))

-- a root of the shorter log isn't stored
pub lacks_root : truncate_refusal cleared 5 1 ≡ Some (NoNode 8)
unfolding joined any_under end_block_of number full_roots_of roots_below first_missing
lacks_root = refl

pub has_roots : truncate_refusal cleared 4 1 ≡ None
unfolding joined any_under end_block_of number full_roots_of roots_below first_missing
has_roots = refl

-- too long comes before a fork that isn't greater, that before a root that isn't stored, and a fork above its limit before both
pub too_long : truncate_refusal cleared 8 0 ≡ Some (OutOfRange 7)
unfolding joined any_under end_block_of number full_roots_of roots_below first_missing
too_long = refl

pub old_fork : truncate_refusal (truncate_content 5 1 [] cleared) 5 1 ≡ Some (OldFork 1)
unfolding joined any_under end_block_of number full_roots_of roots_below first_missing
old_fork = refl

pub old_fork_first : truncate_refusal cleared 5 0 ≡ Some (OldFork 0)
unfolding joined any_under end_block_of number full_roots_of roots_below first_missing
old_fork_first = refl

pub fork_limit : truncate_refusal cleared 5 (MAX_FORK + 1) ≡ Some (Limit Fork MAX_FORK)
unfolding joined any_under end_block_of number full_roots_of roots_below first_missing
fork_limit = refl

pub bad_ranges : (clear_refusal cleared 5 4 ≡ Some (OutOfRange 7)) × (clear_refusal cleared 0 8 ≡ Some (OutOfRange 7)) × (clear_refusal cleared 7 7 ≡ None)
bad_ranges = (refl, refl, refl)

-- the roots of a log of twelve blocks whose first eight are these
abbrev twelve : List Twig
twelve = twig_at (letters (codes "abcdefgh")).node 3 0 ∷ no_twig ∷ []

pub none_kept : kept_of (letters (codes "abcdef")) 12 twelve ≡ 0
unfolding joined any_under end_block_of full_roots_of roots_below kept_under
none_kept = refl

pub eight_kept : kept_of (letters (codes "abcdefgh")) 12 twelve ≡ 8
unfolding joined any_under end_block_of full_roots_of roots_below kept_under G round rounds F words state_after last_state blake2b hash_of
eight_kept = refl

-- another block in the first eight leaves none
pub changed_block : kept_of (letters (codes "abcdefgx")) 12 twelve ≡ 0
unfolding joined any_under end_block_of full_roots_of roots_below kept_under G round rounds F words state_after last_state blake2b hash_of
changed_block = refl

-- of the roots of five of seven blocks the first was one before
pub fresh_of_five : map (λ (node : Node). node.index) (fresh_roots (roots (letters (codes "abcdefg"))) (roots_at (letters (codes "abcdefg")).node 5)) ≡ 8 ∷ []
unfolding joined any_under end_block_of number full_roots_of roots_below G round rounds F words state_after last_state blake2b hash_of
fresh_of_five = refl

-- the one root of four blocks was one before
pub fresh_of_four : fresh_roots (roots (letters (codes "abcdefg"))) (roots_at (letters (codes "abcdefg")).node 4) ≡ []
unfolding joined any_under end_block_of number full_roots_of roots_below G round rounds F words state_after last_state blake2b hash_of
fresh_of_four = refl
