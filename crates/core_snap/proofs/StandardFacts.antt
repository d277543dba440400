-- Worked cases of reads under a snapshot.
use Rattle.std.proofs.Common.{◌≡◌, ℕ, List, [], ◌∷◌, map, codes, Result, Ok, Err, replicate, refl}
use Rattle.blake2b_hash.specs.Blake2b.{G, round, rounds, F, words, state_after, last_state, blake2b, hash_of}
use Rattle.flat_tree.specs.Subtrees.{number, end_block_of}
use Rattle.flat_tree.specs.Roots.{full_roots_of, roots_below, place_past, depth_past}
use Rattle.merkle_nodes.specs.Joined.{joined}
use Rattle.node_set.specs.Contents.{Content, start}
use Rattle.node_set.specs.Closure.{any_under}
use Rattle.node_set.specs.declared.fault.CoreFault.{CoreFault}
use Rattle.node_set.specs.declared.fault.CoreFault.TheVariants.{OutOfRange, Unavailable}
use Rattle.node_set.specs.Contents.{roots}
use Rattle.node_set.specs.Changes.{append_content, truncate_content, clear_content}
use Rattle.core_snap.specs.declared.snapshot.Snapshot.{Snapshot}
use Rattle.core_snap.specs.Reads.{Answer, snap_read, get_of}

abbrev letters : List ℕ → List (List ℕ)
letters text = map (λ byte. byte ∷ []) text

abbrev seven : Content
seven = append_content (letters (codes "abcdefg")) (replicate 64 1) start

-- the head of seven blocks
abbrev snap : Snapshot
snap = record { fork = 0; length = 7; roots = roots seven; signature = replicate 64 1 }

-- the log after it was cut to five blocks and went on otherwise
abbrev later : Content
later = append_content (letters (codes "xyz")) (replicate 64 3) (truncate_content 5 1 (replicate 64 2) seven)

-- what a read answers, without its siblings
abbrev read : ℕ → Result (List ℕ) CoreFault
read index = Block (snap_read later snap index)
  where
    Block : Result Answer CoreFault → Result (List ℕ) CoreFault
    Block (Ok answer) = Ok answer.block
    Block (Err fault) = Err fault

pub kept_block : read 3 ≡ Ok (codes "d")
unfolding joined any_under end_block_of number full_roots_of roots_below place_past depth_past G round rounds F words state_after last_state blake2b hash_of
kept_block = refl

pub gone_blocks : (read 4 ≡ Err (Unavailable 4)) × (read 5 ≡ Err (Unavailable 5)) × (read 6 ≡ Err (Unavailable 6))
unfolding joined any_under end_block_of number full_roots_of roots_below place_past depth_past G round rounds F words state_after last_state blake2b hash_of
gone_blocks = (refl, refl, refl)

pub past_the_snapshot : read 7 ≡ Err (OutOfRange 7)
past_the_snapshot = refl

-- what the log itself gives
abbrev got : Content → ℕ → Result (List ℕ) CoreFault
got m index = Block (get_of m index)
  where
    Block : Result Answer CoreFault → Result (List ℕ) CoreFault
    Block (Ok answer) = Ok answer.block
    Block (Err fault) = Err fault

pub own_blocks : (got seven 3 ≡ Ok (codes "d")) × (got later 5 ≡ Ok (codes "x")) × (got seven 7 ≡ Err (OutOfRange 7))
unfolding depth_past full_roots_of roots_below end_block_of number joined any_under
own_blocks = (refl, refl, refl)

pub given_up : (got (clear_content 3 4 seven) 3 ≡ Err (Unavailable 3)) × (got (clear_content 3 4 seven) 8 ≡ Err (OutOfRange 7))
given_up = (refl, refl)
