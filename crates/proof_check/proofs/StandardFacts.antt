-- Worked cases of admissions, and of refusals of which two hold at once.
use Rattle.std.proofs.Common.{◌≡◌, ◌+◌, ℕ, Bool, true, false, List, [], ◌∷◌, map, codes, Some, None, is_some, replicate, if◌then◌else◌, refl}
use Rattle.blake2b_hash.specs.Blake2b.{G, round, rounds, F, words, state_after, last_state, blake2b, hash_of}
use Rattle.flat_tree.specs.Subtrees.{number, end_block_of, first_block_of}
use Rattle.flat_tree.specs.Roots.{full_roots_of, roots_below, place_past, depth_past}
use Rattle.flat_tree.specs.Covers.{cover_of, cover_in, largest_up_to}
use Rattle.merkle_nodes.specs.declared.node.Twig.{Twig}
use Rattle.merkle_nodes.specs.Tree.{tree_of, leaf_of}
use Rattle.merkle_nodes.specs.Joined.{joined, value_in}
use Rattle.node_set.specs.Contents.{Content, start, no_twig}
use Rattle.node_set.specs.Closure.{any_under}
use Rattle.merkle_nodes.specs.Fold.{fold_from}
use Rattle.merkle_nodes.specs.Sound.{below}
use Rattle.std.specs.List.{flat_map}
use Rattle.commit_book.specs.declared.commit.Commit.TheVariants.{Fetch, Reorg}
use Rattle.merkle_nodes.specs.declared.limit.What.TheVariants.{Blocks, Bytes}
use Rattle.proof_form.specs.declared.proof.UpgradePart.{UpgradePart}
use Rattle.proof_form.specs.Proofs.{Proof}
use Rattle.node_set.specs.declared.fault.Refusal.TheVariants.{Limit, OutOfRange, OldFork, NewFork, NotLonger, WrongStart, HashDiffers, Uncovered, BadSignature, SeekWrong}
use Rattle.node_set.specs.Changes.{append_content, upgrade_content}
use Rattle.node_set.specs.Offsets.{levels_to, left_bytes}
use Rattle.node_set.specs.Paths.{folded_at}
use Rattle.core_forks.specs.Reorganise.{kept_under}
use Rattle.proof_check.specs.Judge.{refusal_of, admitted, commit_of}
use Rattle.flat_tree.specs.declared.limits.TheConstants.{MAX_BLOCKS, MAX_CORE_BYTES}

-- a verifier that accepts all, and one that accepts nothing
abbrev all : List ℕ → List ℕ → Bool
all text signature = true

abbrev nothing : List ℕ → List ℕ → Bool
nothing text signature = false

abbrev letters : List ℕ → List (List ℕ)
letters text = map (λ byte. byte ∷ []) text

abbrev eight : List (List ℕ)
eight = letters (codes "abcdefgh")

-- no part
abbrev offer : Proof
offer = record { fork = 0; block = None; hash = None; seek = None; upgrade = None }

abbrev offer_block : ℕ → List ℕ → List Twig → Proof
offer_block index bytes trail = record offer { block = Some (record { index = index; bytes = bytes; trail = trail }) }

abbrev upgrade_part : ℕ → ℕ → List Twig → UpgradePart
upgrade_part from to twigs = record { start = from; length = to; nodes = twigs; signature = replicate 64 1 }

abbrev offer_upgrade : ℕ → ℕ → List Twig → Proof
offer_upgrade from to twigs = record offer { upgrade = Some (upgrade_part from to twigs) }

-- a log of eight blocks of which nothing is held
abbrev empty_eight : Content
empty_eight = upgrade_content 8 (tree_of eight 3 0 ∷ []) (replicate 64 1) start

-- the siblings of block 5 in it
abbrev siblings : List Twig
siblings = tree_of eight 0 4 ∷ tree_of eight 1 3 ∷ tree_of eight 2 0 ∷ []

abbrev good : Proof
good = offer_block 5 (codes "f") siblings

abbrev stored : Content → List ℕ
stored m = flat_map (λ depth. flat_map (λ offset. if is_some (m.node depth offset) then number depth offset ∷ [] else []) (below 8)) (below 4)

pub good_admitted : refusal_of all good empty_eight ≡ None
unfolding joined value_in any_under end_block_of first_block_of cover_of cover_in largest_up_to full_roots_of roots_below depth_past levels_to fold_from tree_of number G round rounds F words state_after last_state blake2b hash_of
good_admitted = refl

pub good_stores : stored (admitted good empty_eight) ≡ 8 ∷ 10 ∷ 9 ∷ 13 ∷ 3 ∷ 11 ∷ 7 ∷ []
unfolding joined value_in any_under end_block_of first_block_of cover_of cover_in largest_up_to full_roots_of roots_below depth_past levels_to fold_from tree_of number
good_stores = refl

pub good_commits : commit_of good empty_eight ≡ Some (Fetch 5)
good_commits = refl

-- the same again changes nothing
pub good_again : (refusal_of all good (admitted good empty_eight) ≡ None) × (commit_of good (admitted good empty_eight) ≡ None)
unfolding joined value_in any_under end_block_of first_block_of cover_of cover_in largest_up_to full_roots_of roots_below depth_past levels_to fold_from tree_of number G round rounds F words state_after last_state blake2b hash_of
good_again = (refl, refl)

-- two siblings end below the root, and a fourth is passed over
pub short_trail : refusal_of all (offer_block 5 (codes "f") (tree_of eight 0 4 ∷ tree_of eight 1 3 ∷ [])) empty_eight ≡ Some (Uncovered 11)
unfolding joined value_in any_under end_block_of first_block_of cover_of cover_in largest_up_to full_roots_of roots_below depth_past levels_to fold_from tree_of number G round rounds F words state_after last_state blake2b hash_of
short_trail = refl

pub long_trail : refusal_of all (offer_block 5 (codes "f") (tree_of eight 0 4 ∷ tree_of eight 1 3 ∷ tree_of eight 2 0 ∷ no_twig ∷ [])) empty_eight ≡ None
unfolding joined value_in any_under end_block_of first_block_of cover_of cover_in largest_up_to full_roots_of roots_below depth_past levels_to fold_from tree_of number G round rounds F words state_after last_state blake2b hash_of
long_trail = refl

-- block 4 needs no sibling then
pub next_block : refusal_of all (offer_block 4 (codes "e") []) (admitted good empty_eight) ≡ None
unfolding joined value_in any_under end_block_of first_block_of cover_of cover_in largest_up_to full_roots_of roots_below depth_past levels_to fold_from tree_of number G round rounds F words state_after last_state blake2b hash_of
next_block = refl

-- a good block under an upgrade that is refused
pub good_block_bad_upgrade : refusal_of nothing (record (offer_upgrade 8 9 (tree_of (letters (codes "i")) 0 0 ∷ [])) { block = Some (record { index = 5; bytes = codes "f"; trail = siblings }) }) empty_eight ≡ Some BadSignature
unfolding joined value_in any_under end_block_of first_block_of cover_of cover_in largest_up_to full_roots_of roots_below depth_past levels_to fold_from tree_of number G round rounds F words state_after last_state blake2b hash_of
good_block_bad_upgrade = refl

-- sizes that only add up, of a node that is looked at and not kept
abbrev two : List (List ℕ)
two = codes "aaaa" ∷ codes "bbbb" ∷ []

abbrev empty_two : Content
empty_two = upgrade_content 2 (tree_of two 1 0 ∷ []) (replicate 64 1) start

abbrev lying : Proof
lying = record offer {
  hash = Some (record {
    node = record { index = 0; size = 3; hash = (tree_of two 0 0).hash };
    trail = record { size = 5; hash = (tree_of two 0 1).hash } ∷ [];
  });
}

pub lying_changes_nothing : (refusal_of all lying empty_two ≡ None) × (commit_of lying empty_two ≡ None) × (stored (admitted lying empty_two) ≡ 1 ∷ [])
unfolding joined value_in any_under end_block_of first_block_of cover_of cover_in largest_up_to full_roots_of roots_below depth_past levels_to fold_from tree_of number G round rounds F words state_after last_state blake2b hash_of lib.Count.count_trailing_zeros
lying_changes_nothing = (refl, refl, refl)

-- ---- two refusals at once: the first in order is answered

-- too many blocks, under an old fork, from a wrong start
pub limit_first : refusal_of all (offer_upgrade 3 (MAX_BLOCKS + 1) []) (record empty_eight { fork = 1 }) ≡ Some (Limit Blocks MAX_BLOCKS)
limit_first = refl

-- too many blocks, and a block past them
pub limit_before_range : refusal_of all (record (offer_upgrade 8 (MAX_BLOCKS + 1) []) { block = Some (record { index = MAX_BLOCKS + 1; bytes = codes "f"; trail = [] }) }) empty_eight
    ≡ Some (Limit Blocks MAX_BLOCKS)
limit_before_range = refl

-- more bytes than a core has
abbrev heavy : Twig
heavy = record no_twig { size = MAX_CORE_BYTES }

-- too many bytes, and a block past the end
pub bytes_before_range : refusal_of all (record (offer_upgrade 8 9 (heavy ∷ [])) { block = Some (record { index = 9; bytes = codes "f"; trail = [] }) }) empty_eight
    ≡ Some (Limit Bytes MAX_CORE_BYTES)
unfolding joined value_in any_under end_block_of first_block_of cover_of cover_in largest_up_to full_roots_of roots_below depth_past levels_to fold_from tree_of number
bytes_before_range = refl

-- the bytes of an upgrade from a wrong start aren't counted
pub start_before_bytes : refusal_of all (offer_upgrade 3 9 (heavy ∷ [])) empty_eight ≡ Some (WrongStart 8)
unfolding joined value_in any_under end_block_of first_block_of cover_of cover_in largest_up_to full_roots_of roots_below depth_past levels_to fold_from tree_of number
start_before_bytes = refl

-- a block past the end, under an upgrade from a wrong start
pub range_before_start : refusal_of all (record (offer_upgrade 3 9 []) { block = Some (record { index = 9; bytes = codes "f"; trail = [] }) }) empty_eight ≡ Some (OutOfRange 9)
unfolding joined value_in any_under end_block_of first_block_of cover_of cover_in largest_up_to full_roots_of roots_below depth_past levels_to fold_from tree_of number
range_before_start = refl

-- a block past the end, under an old fork
pub range_before_fork : refusal_of all (offer_block 8 [] []) (record empty_eight { fork = 1 }) ≡ Some (OutOfRange 8)
unfolding joined value_in any_under end_block_of first_block_of cover_of cover_in largest_up_to full_roots_of roots_below
range_before_fork = refl

-- an old fork with an upgrade that isn't longer and starts elsewhere
pub fork_before_length : refusal_of all (offer_upgrade 3 7 []) (record empty_eight { fork = 1 }) ≡ Some (OldFork 1)
unfolding end_block_of
fork_before_length = refl

-- a new fork without an upgrade, and a block that isn't covered
pub new_fork : refusal_of all (record (offer_block 5 (codes "f") []) { fork = 1 }) empty_eight ≡ Some (NewFork 0)
unfolding joined value_in any_under end_block_of first_block_of cover_of cover_in largest_up_to full_roots_of roots_below
new_fork = refl

-- not longer, and from a wrong start
pub length_before_start : refusal_of all (offer_upgrade 3 8 []) empty_eight ≡ Some (NotLonger 8)
unfolding end_block_of
length_before_start = refl

-- a wrong start, and a signature that is refused
pub start_before_signature : refusal_of nothing (offer_upgrade 3 9 []) empty_eight ≡ Some (WrongStart 8)
unfolding end_block_of
start_before_signature = refl

-- a greater fork has to start at 0
pub start_of_a_fork : refusal_of all (record (offer_upgrade 8 12 []) { fork = 1 }) empty_eight ≡ Some (WrongStart 0)
unfolding end_block_of
start_of_a_fork = refl

-- a block that isn't covered, beside a node that differs
pub differs_before_uncovered : refusal_of all (record (offer_block 5 (codes "f") []) { hash = Some (record { node = record { index = 7; size = 1; hash = [] }; trail = [] }) }) empty_eight
    ≡ Some (HashDiffers 7 (tree_of eight 3 0) (record { size = 1; hash = [] }))
unfolding joined value_in any_under end_block_of first_block_of cover_of cover_in largest_up_to full_roots_of roots_below depth_past levels_to fold_from tree_of number lib.Count.count_trailing_zeros
differs_before_uncovered = refl

-- an upgrade from a wrong start, and a block that differs
pub start_before_differs : refusal_of all (record (offer_upgrade 3 9 (no_twig ∷ [])) { block = Some (record { index = 5; bytes = codes "g"; trail = siblings }) }) empty_eight
    ≡ Some (WrongStart 8)
unfolding joined value_in any_under end_block_of first_block_of cover_of cover_in largest_up_to full_roots_of roots_below depth_past levels_to fold_from tree_of number
start_before_differs = refl

-- what another block at 5 folds to
abbrev folded_g : Twig
folded_g = folded_at 5 (leaf_of (codes "g")) siblings 3

-- a block that differs, under an upgrade whose signature is refused
pub differs_before_signature : refusal_of nothing (record (offer_upgrade 8 9 (no_twig ∷ [])) { block = Some (record { index = 5; bytes = codes "g"; trail = siblings }) }) empty_eight
    ≡ Some (HashDiffers 7 (tree_of eight 3 0) folded_g)
unfolding joined value_in any_under end_block_of first_block_of cover_of cover_in largest_up_to full_roots_of roots_below depth_past place_past left_bytes levels_to fold_from tree_of number G round rounds F words state_after last_state blake2b hash_of lib.Count.count_trailing_zeros
differs_before_signature = refl

-- of a block and a node that differ, and of two that aren't covered, the block is looked at first
pub block_before_node : (refusal_of all (record (offer_block 5 (codes "g") siblings) { hash = Some (record { node = record { index = 7; size = 1; hash = [] }; trail = [] }) }) empty_eight
    ≡ Some (HashDiffers 7 (tree_of eight 3 0) folded_g))
    × (refusal_of all (record (offer_block 5 (codes "f") []) { hash = Some (record { node = record { index = 0; size = 1; hash = [] }; trail = [] }) }) empty_eight ≡ Some (Uncovered 10))
unfolding joined value_in any_under end_block_of first_block_of cover_of cover_in largest_up_to full_roots_of roots_below depth_past place_past left_bytes levels_to fold_from tree_of number G round rounds F words state_after last_state blake2b hash_of lib.Count.count_trailing_zeros
block_before_node = (refl, refl)

-- an uncovered block, under an upgrade whose signature is refused
pub uncovered_before_signature : refusal_of nothing (record (offer_upgrade 8 9 (no_twig ∷ [])) { block = Some (record { index = 5; bytes = codes "f"; trail = [] }) }) empty_eight ≡ Some (Uncovered 10)
unfolding joined value_in any_under end_block_of first_block_of cover_of cover_in largest_up_to full_roots_of roots_below depth_past levels_to fold_from tree_of number
uncovered_before_signature = refl

-- a signature that is refused, and a sought byte that another block has
pub signature_before_seek : refusal_of nothing (record (offer_upgrade 8 9 (no_twig ∷ [])) { block = Some (record { index = 5; bytes = codes "f"; trail = siblings }); seek = Some 6 }) empty_eight
    ≡ Some BadSignature
unfolding joined value_in any_under end_block_of first_block_of cover_of cover_in largest_up_to full_roots_of roots_below depth_past place_past left_bytes levels_to fold_from tree_of number G round rounds F words state_after last_state blake2b hash_of lib.Count.count_trailing_zeros
signature_before_seek = refl

-- a sought byte that another block has
pub seek_wrong : refusal_of all (record good { seek = Some 6 }) empty_eight ≡ Some (SeekWrong 5 1)
unfolding joined value_in any_under end_block_of first_block_of cover_of cover_in largest_up_to full_roots_of roots_below depth_past place_past left_bytes levels_to fold_from tree_of number G round rounds F words state_after last_state blake2b hash_of
seek_wrong = refl

-- ---- another log under a greater fork

-- a log of twelve blocks whose first eight are the same
abbrev longer : List Twig
longer = tree_of eight 3 0 ∷ tree_of (letters (codes "ijkl")) 2 0 ∷ []

pub reorganises : (refusal_of all (record (offer_upgrade 0 12 longer) { fork = 1 }) (append_content eight (replicate 64 1) start) ≡ None)
    × (commit_of (record (offer_upgrade 0 12 longer) { fork = 1 }) (append_content eight (replicate 64 1) start) ≡ Some (Reorg 1 12 8))
unfolding joined value_in any_under end_block_of first_block_of cover_of cover_in largest_up_to full_roots_of roots_below kept_under depth_past levels_to fold_from tree_of number G round rounds F words state_after last_state blake2b hash_of
reorganises = (refl, refl)
