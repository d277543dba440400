-- Worked cases of answers.
use Rattle.std.proofs.Common.{◌≡◌, ℕ, List, [], ◌∷◌, map, length, codes, Option, Some, None, replicate, refl}
use Rattle.flat_tree.specs.Subtrees.{number, end_block_of}
use Rattle.flat_tree.specs.Roots.{full_roots_of, roots_below, place_past, depth_past}
use Rattle.flat_tree.specs.Covers.{cover_of, cover_in, largest_up_to}
use Rattle.merkle_nodes.specs.Tree.{tree_of}
use Rattle.merkle_nodes.specs.Joined.{joined, value_in}
use Rattle.node_set.specs.Contents.{Content, start, no_twig}
use Rattle.node_set.specs.Closure.{any_under}
use Rattle.proof_form.specs.declared.request.Request.{Request}
use Rattle.proof_form.specs.declared.proof.UpgradePart.{UpgradePart}
use Rattle.proof_form.specs.Proofs.{Proof, Block}
use Rattle.node_set.specs.Changes.{append_content, clear_content, upgrade_content}
use Rattle.node_set.specs.Offsets.{left_bytes, spot_below}
use Rattle.proof_make.specs.Answers.{made_from, made}

abbrev letters : List ℕ → Content
letters text = append_content (map (λ byte. byte ∷ []) text) (replicate 64 1) start

-- nothing asked for
abbrev ask : Request
ask = record { fork = 0; block = None; hash = None; seek = None; upgrade = None }

abbrev ask_block : ℕ → ℕ → Request
ask_block index nodes = record ask { block = Some (record { index = index; nodes = nodes }) }

abbrev ask_hash : ℕ → ℕ → Request
ask_hash index nodes = record ask { hash = Some (record { index = index; nodes = nodes }) }

abbrev ask_upgrade : ℕ → ℕ → Request
ask_upgrade from to = record ask { upgrade = Some (record { start = from; length = to }) }

-- how many siblings the block of an answer has, and which block it is
abbrev block_given : Option Proof → Option (ℕ × ℕ)
block_given None = None
block_given (Some p) = Given p.block
  where
    Given : Option Block → Option (ℕ × ℕ)
    Given None = None
    Given (Some b) = Some (b.index, length b.trail)

-- how many subtrees the upgrade of an answer has
abbrev twigs_given : Option Proof → Option ℕ
twigs_given None = None
twigs_given (Some p) = Given p.upgrade
  where
    Given : Option UpgradePart → Option ℕ
    Given None = None
    Given (Some u) = Some (length u.nodes)

pub block_of_eight : block_given (made_from (letters (codes "abcdefgh")) (ask_block 5 3)) ≡ Some (5, 3)
unfolding joined any_under end_block_of full_roots_of roots_below depth_past
block_of_eight = refl

-- more siblings than the path has, and a block past the length or not held
pub no_such_path : made_from (letters (codes "abcdefg")) (ask_block 6 1) ≡ None
unfolding joined any_under end_block_of full_roots_of roots_below depth_past
no_such_path = refl

pub past_the_length : made_from (letters (codes "abcdefg")) (ask_block 7 0) ≡ None
past_the_length = refl

pub not_held : made_from (clear_content 2 7 (letters (codes "abcdefg"))) (ask_block 3 0) ≡ None
unfolding joined any_under end_block_of full_roots_of roots_below depth_past
not_held = refl

-- another fork
pub other_fork : made_from (letters (codes "abcdefg")) (record (ask_block 3 0) { fork = 1 }) ≡ None
other_fork = refl

-- a node that isn't stored, and one whose second sibling is a root's
pub node_not_stored : made_from (clear_content 2 7 (letters (codes "abcdefg"))) (ask_hash 8 0) ≡ None
unfolding joined any_under end_block_of number lib.Count.count_trailing_zeros
node_not_stored = refl

pub no_sibling_of_a_root : made_from (letters (codes "abcdefg")) (ask_hash 9 1) ≡ None
unfolding joined any_under end_block_of number lib.Count.count_trailing_zeros
no_sibling_of_a_root = refl

-- a sought block comes with its whole trail
pub sought : block_given (made_from (letters (codes "abcdefg")) (record ask { seek = Some 2 })) ≡ Some (2, 2)
unfolding joined any_under end_block_of full_roots_of roots_below depth_past place_past left_bytes spot_below
sought = refl

pub sought_past_the_end : made_from (letters (codes "abcdefg")) (record ask { seek = Some 7 }) ≡ None
unfolding joined any_under end_block_of full_roots_of roots_below depth_past place_past left_bytes spot_below
sought_past_the_end = refl

-- an upgrade to the length, from below it
pub upgrade_of_eight : twigs_given (made_from (letters (codes "abcdefgh")) (ask_upgrade 5 8)) ≡ Some 2
unfolding joined any_under end_block_of cover_of cover_in largest_up_to
upgrade_of_eight = refl

pub shorter_upgrade : made_from (letters (codes "abcdefgh")) (ask_upgrade 5 7) ≡ None
unfolding joined any_under end_block_of cover_of cover_in largest_up_to
shorter_upgrade = refl

pub empty_upgrade : made_from (letters (codes "abcdefgh")) (ask_upgrade 8 8) ≡ None
unfolding joined any_under end_block_of cover_of cover_in largest_up_to
empty_upgrade = refl

-- a cover that isn't stored whole
pub upgrade_not_stored : made_from (upgrade_content 8 (no_twig ∷ []) (replicate 64 1) start) (ask_upgrade 5 8) ≡ None
unfolding joined value_in any_under end_block_of cover_of cover_in largest_up_to
upgrade_not_stored = refl

-- one part without an answer leaves none for the rest
pub all_or_none : made_from (letters (codes "abcdefg")) (record (ask_block 3 0) { hash = Some (record { index = 7; nodes = 0 }) }) ≡ None
unfolding joined any_under end_block_of full_roots_of roots_below depth_past number lib.Count.count_trailing_zeros
all_or_none = refl

-- the holder of the whole log answers what its content does
pub made_of_the_log : block_given (made (map (λ byte. byte ∷ []) (codes "abcdefgh")) 0 (replicate 64 1) (ask_block 5 3)) ≡ Some (5, 3)
unfolding any_under end_block_of full_roots_of roots_below depth_past tree_of
made_of_the_log = refl
