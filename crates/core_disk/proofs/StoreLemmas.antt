-- A disk with what is in memory of it, as a view.
use Rattle.std.proofs.Common.{◌≡◌, ℕ, Bool, true, ◌*◌, ◌/◌, ◌^◌, ◌<◌, ◌≤◌, List, Option, Some, Err, refl, sym, ap, ◌∙◌, arith, length, take, ◌++◌}
use Rattle.std.proofs.lemmas.List.{take-append-le, take_all}
use Rattle.node_set.specs.Walks.{KeepsView}
use Rattle.node_set.proofs.ClosureLemmas.{true_closure}
use Rattle.flat_tree.specs.declared.limits.TheConstants.{MAX_BLOCKS}
use Rattle.core_disk.specs.declared.replay.TheConstants.{MAX_NODES}
use Rattle.std.specs.Prelude.{IsTrue, IfOk, ◌&&◌, Result, Ok}
use Rattle.std.proofs.lemmas.Bool.{and_parts}
use Rattle.outside_traits.specs.Faults.{count_fault}
use mathlib.Core.Path.{fun_ext}
use Rattle.flat_tree.specs.declared.limits.TheConstants.{MAX_BLOCK_BYTES, MAX_CORE_BYTES}
use Rattle.flat_tree.specs.Subtrees.{number, end_block_of}
use Rattle.flat_tree.proofs.NumberLemmas.{some_number, number_below}
use Rattle.bit_field.specs.Places.{has}
use Rattle.disk_trait.specs.Disk.{DiskView}
use Rattle.disk_trait.specs.declared.disk.Area.TheVariants.{Tree}
use Rattle.merkle_nodes.specs.declared.node.Twig.{Twig}
use Rattle.merkle_nodes.specs.Tree.{leaf_of}
use Rattle.node_set.specs.declared.fault.CoreFault.{CoreFault}
use Rattle.node_set.specs.declared.fault.CoreFault.TheVariants.{BadStore}
use Rattle.node_set.specs.Contents.{held, twig_at}
use Rattle.node_set.specs.Closure.{in_closure}
use Rattle.node_set.specs.Nodes.{values_of}
use Rattle.node_set.specs.Views.{KeepsContent, HasViewCause, GivesBlock}
use Rattle.node_set.specs.Whole.{IsSound, KeepsLimits}
use Rattle.node_set.proofs.RootTruth.{twig_at-some}
use Rattle.node_set.proofs.SoundLemmas.{stored_value}
use Rattle.core_disk.specs.InHand.{InHand, IsKept, opened_of}
use Rattle.core_disk.specs.declared.layout.TheConstants.{NODE_BYTES}
use Rattle.core_snap.proofs.WayLemmas.{leaf_stored}
use Rattle.core_disk.specs.Laid.{SizesFit, outline, block_in}
use Rattle.core_disk.specs.Fitting.{sizes_fit, is_unfit}
use Rattle.core_disk.specs.Testing.{is_kept, has_blocks}
use Rattle.core_disk.specs.Stored.{blocks_area, content_of, is_standing, is_showing, stored_view, planned_view}
use Rattle.core_disk.proofs.Testing.{kept_told}
use Rattle.core_disk.proofs.LaidLemmas.{bounded_in, held_in}
use Rattle.core_disk.proofs.FollowLaws.{both}
use Rattle.core_disk.proofs.FittingLemmas.{sizes_told, told_sizes, record_unfit, large_unfit, leaf_unfit}

-- where they stand the content is sound and within the limits
pub standing_kept : (disk : DiskView) (hand : InHand) → IsKept hand → IsTrue (is_standing disk hand)
    → IsSound (content_of disk hand) × KeepsLimits (content_of disk hand)
standing_kept disk hand kept stands =
    let m = content_of disk hand in
    let both = and_parts disk.honest (is_kept m && has_blocks (blocks_area disk) m) stands in
    kept_told m (bounded_in (blocks_area disk) (opened_of hand) kept.spare) (and_parts (is_kept m) (has_blocks (blocks_area disk) m) both.1).0

-- and the disk shows it
pub standing_shows : (disk : DiskView) (hand : InHand) → IsKept hand → IsTrue (is_standing disk hand) → IsTrue (is_showing disk hand)
standing_shows disk hand kept stands =
    let m = content_of disk hand in
    let fit : SizesFit m.node = λ depth offset twig there. ((standing_kept disk hand kept stands).0.fit depth offset twig there).size in
    both disk.honest (sizes_fit m) (and_parts disk.honest (is_kept m && has_blocks (blocks_area disk) m) stands).0 (told_sizes m fit)

-- where the disk shows it, it answers as it tells, and no node is too large
pub showing_fits : (disk : DiskView) (hand : InHand) → IsKept hand → IsTrue (is_showing disk hand)
    → (disk.honest ≡ true) × SizesFit (outline (opened_of hand)).node
showing_fits disk hand kept shows =
    let m = content_of disk hand in
    let parts = and_parts disk.honest (sizes_fit m) shows in
    (parts.0, sizes_told m (bounded_in (blocks_area disk) (opened_of hand) kept.spare) parts.1)

-- nothing happened
pub same_content : (disk : DiskView) (hand : InHand) (a b : ℕ) (l k : Option CoreFault) → KeepsContent (stored_view disk hand a l) (stored_view disk hand b k)
same_content disk hand a b l k = record { content = refl; stands = refl; shows = refl; past = refl; later = omega arith; tells = refl }

-- a call of the view answered that a record is bad, which can't be where they stand
pub bad_told : {T : Type 0} → (disk : DiskView) (hand : InHand) (answered : ℕ) (last : Option CoreFault) (faults at : ℕ) → answered ≤ count_fault answered
    → (IsTrue (is_standing disk hand) → ⊥) → is_unfit (content_of disk hand) at ≡ true
    → HasViewCause {T = T} (planned_view disk hand answered last faults) (planned_view disk hand (count_fault answered) (Some (BadStore Tree at)) faults)
    (Err (BadStore Tree at))
bad_told disk hand answered last faults at more never unfit = record {
  faults = omega arith;
  answered = more;
  told = record {
    answered = omega arith;
    last = refl;
    cause = λ same. cc;
    stands = λ stands. absurd (never stands);
    own = unfit;
  };
}

-- and the content stays
pub told_keeps : (disk : DiskView) (hand : InHand) (answered : ℕ) (last now : Option CoreFault) → answered ≤ count_fault answered
    → KeepsView (stored_view disk hand answered last) (stored_view disk hand (count_fault answered) now)
told_keeps disk hand answered last now more = record { keeps = same_content disk hand answered (count_fault answered) last now; faults = omega arith; answered = more }

-- a node that is to be stored has a number that a core may have
pub closure_few : (n : ℕ) (held : ℕ → Bool) (index : ℕ) → n ≤ MAX_BLOCKS
    → ((depth offset : ℕ) → number depth offset ≡ index → in_closure n held depth offset ≡ true) → index < MAX_NODES
closure_few n held index few closed =
    let place = some_number index in
    let is : number place.0 place.1.0 ≡ index = sym place.1.1 in
    let within = (true_closure n held place.0 place.1.0 (closed place.0 place.1.0 is)).within in
    omega (arith, is, within, few, number_below place.0 place.1.0)

-- the front of a place that was read
pub read_front : (size : ℕ) (got rest : List ℕ) → length got ≡ size → take size (got ++ rest) ≡ got
read_front size got rest is = take-append-le size got rest (omega (arith, is)) ∙ take_all size got (omega (arith, is))

-- the held indices are those in memory
held_are : (disk : DiskView) (hand : InHand) → held (content_of disk hand) ≡ has hand.held
held_are disk hand = fun_ext (held_in (blocks_area disk) (opened_of hand))

-- a node that is to be stored and isn't there, or is larger than a core, isn't in its range
pub node_unfit : (disk : DiskView) (hand : InHand) (index : ℕ)
    → ((depth offset : ℕ) → number depth offset ≡ index → in_closure hand.head.length (has hand.held) depth offset ≡ true)
    → ((depth offset : ℕ) → number depth offset ≡ index → (twig : Twig) → values_of hand.nodes depth offset ≡ Some twig → MAX_CORE_BYTES < twig.size)
    → is_unfit (content_of disk hand) (NODE_BYTES * index) ≡ true
node_unfit disk hand index closed none =
    let place = some_number index in
    let depth = place.0 in
    let offset = place.1.0 in
    let is : number depth offset ≡ index = sym place.1.1 in
    let m = content_of disk hand in
    let inside = closed depth offset is in
    let here : m.node depth offset ≡ values_of hand.nodes depth offset = rw inside refl in
    record_unfit m (NODE_BYTES * index) (record {
      depth = depth;
      offset = offset;
      place = ap (λ (n : ℕ). NODE_BYTES * n) (sym is);
      stored = ap (λ (f : ℕ → Bool). in_closure hand.head.length f depth offset) (held_are disk hand) ∙ inside;
      unfit = large_unfit depth (m.node depth offset) (λ twig there. none depth offset is twig (sym here ∙ there));
    })

-- nor is the leaf of a held block that is larger than a block
pub block_unfit : (disk : DiskView) (hand : InHand) (index : ℕ) → IsKept hand → (opened_of hand).held index ≡ true
    → MAX_BLOCK_BYTES < (twig_at (outline (opened_of hand)).node 0 index).size → is_unfit (content_of disk hand) (NODE_BYTES * number 0 index) ≡ true
unfolding end_block_of
block_unfit disk hand index kept there large =
    let m = content_of disk hand in
    let own : index / 2 ^ 0 ≡ index = omega arith in
    let whole : end_block_of 0 (index / 2 ^ 0) ≤ hand.head.length = omega (arith, own, kept.spare index there) in
    record_unfit m (NODE_BYTES * number 0 index) (record {
      depth = 0;
      offset = index;
      place = refl;
      stored = ap (λ (f : ℕ → Bool). in_closure hand.head.length f 0 index) (held_are disk hand) ∙ leaf_stored hand.head.length (has hand.held) index 0 there whole;
      unfit = leaf_unfit m.node index large;
    })

-- each node that is to be stored is there where they stand, and is no larger than a core
pub node_there : (disk : DiskView) (hand : InHand) (index : ℕ) → IsKept hand
    → ((depth offset : ℕ) → number depth offset ≡ index → in_closure hand.head.length (has hand.held) depth offset ≡ true)
    → ((depth offset : ℕ) → number depth offset ≡ index → (twig : Twig) → values_of hand.nodes depth offset ≡ Some twig → MAX_CORE_BYTES < twig.size)
    → IsTrue (is_standing disk hand) → ⊥
node_there disk hand index kept closed none stands =
    let sound = (standing_kept disk hand kept stands).0 in
    let place = some_number index in
    let depth = place.0 in
    let offset = place.1.0 in
    let is : number depth offset ≡ index = sym place.1.1 in
    let m = content_of disk hand in
    let inside = closed depth offset is in
    let here : m.node depth offset ≡ values_of hand.nodes depth offset = rw inside refl in
    let own = ap (λ (f : ℕ → Bool). in_closure hand.head.length f depth offset) (held_are disk hand) in
    let stored = stored_value (m.node depth offset) (sound.closed depth offset ∙ own ∙ inside) in
    let large = none depth offset is stored.0 (sym here ∙ stored.1) in
    let fits = sound.fit depth offset stored.0 stored.1 in
    omega (arith, large, fits.size)

-- a held block is no larger than a block may be where they stand
pub block_fits : (disk : DiskView) (hand : InHand) (index : ℕ) → IsKept hand → (opened_of hand).held index ≡ true → IsTrue (is_standing disk hand)
    → (twig_at (outline (opened_of hand)).node 0 index).size ≤ MAX_BLOCK_BYTES
block_fits disk hand index kept there stands =
    let sound = (standing_kept disk hand kept stands).0 in
    let m = content_of disk hand in
    let block = stored_value (m.block index) (held_in (blocks_area disk) (opened_of hand) index ∙ there) in
    let leaf = sound.leaves index block.0 block.1 in
    let size = ap (λ (twig : Twig). twig.size) (twig_at-some m.node 0 index (leaf_of block.0) leaf) in
    omega (arith, size, sound.blocks.size index block.0 block.1)

-- what a read put to the front of a place
pub gives_block : (disk : DiskView) (hand : InHand) (answered : ℕ) (last : Option CoreFault) (index : ℕ) (old place : List ℕ) (answer : Result ℕ CoreFault) → IsKept hand
    → IsTrue (held (content_of disk hand) index) → MAX_BLOCK_BYTES ≤ length old → length place ≡ length old → IfOk answer (λ len. len ≤ MAX_BLOCK_BYTES)
    → (IsTrue (is_showing disk hand) → IfOk answer (λ len. take len place ≡ block_in (blocks_area disk) (outline (opened_of hand)) index))
    → IfOk answer (GivesBlock (stored_view disk hand answered last) index place)
gives_block disk hand answered last index old place (Err fault) kept there room same size bytes = tt
gives_block disk hand answered last index old place (Ok len) kept there room same size bytes = record {
  size = size;
  within = omega (arith, size, room, same);
  content = λ stands. shown (standing_shows disk hand kept stands);
  shown = shown;
}
  where
    shown : IsTrue (is_showing disk hand) → (content_of disk hand).block index ≡ Some (take len place)
    shown shows =
        let own : (opened_of hand).held index ≡ true = sym (held_in (blocks_area disk) (opened_of hand) index) ∙ there in
        rw own (ap Some (sym (bytes shows)))
