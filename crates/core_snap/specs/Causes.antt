-- What a read over a view answers, and why it fails.
use Rattle.std.specs.Prelude.{◌≡◌, ◌≢◌, ℕ, Bool, not, ◌≤◌, ◌⊎◌, List, length, take, Option, Result, Ok, Err, nat_le}
use Rattle.std.specs.List.{AllByRecursion}
use Rattle.outside_traits.specs.Faults.{Rose}
use Rattle.flat_tree.specs.Roots.{depth_over}
use Rattle.flat_tree.specs.declared.limits.TheConstants.{MAX_BLOCK_BYTES}
use Rattle.merkle_nodes.specs.declared.node.Node.{Node}
use Rattle.merkle_nodes.specs.declared.node.Twig.{Twig}
use Rattle.merkle_nodes.specs.Tree.{leaf_of}
use Rattle.merkle_nodes.specs.Roots.{twig_of}
use Rattle.merkle_nodes.specs.Fold.{fold, IsRootOver}
use Rattle.merkle_nodes.specs.Bundle.{TwigFits}
use Rattle.node_set.specs.declared.fault.CoreFault.{CoreFault}
use Rattle.node_set.specs.declared.fault.CoreFault.TheVariants.{OutOfRange, Unavailable, StoreFault, Damaged}
use Rattle.node_set.specs.declared.fault.Place.TheVariants.{Leaf, Node as AtNode}
use Rattle.node_set.specs.Refuses.{or_else, refuse_if}
use Rattle.node_set.specs.Views.{ViewState, TellsFault}
use Rattle.core_snap.specs.declared.snapshot.ReadAt.{ReadAt}
use Rattle.core_snap.specs.Reads.{Answer}

-- the index isn't below the length, or its block isn't held
abbrev pub read_refusal : ℕ → (ℕ → Bool) → ℕ → Option CoreFault
read_refusal blocks held index =
    or_else (refuse_if (nat_le blocks index) (OutOfRange blocks)) (refuse_if (not (held index)) (Unavailable index))

-- the block and its siblings are within the limits
pub record ReadFits (read : ReadAt) : Type 0 where
  pub size : read.len ≤ MAX_BLOCK_BYTES
  pub twigs : AllByRecursion TwigFits read.trail

-- the leaf that was kept isn't the one of the block that was read
pub record LeafDiffers (place want have : List ℕ) : Type 0 where
  pub kept : Twig
  pub len : ℕ
  pub within : len ≤ length place
  pub want_is : want ≡ kept.hash
  pub have_is : have ≡ (leaf_of (take len place)).hash
  pub differs : kept ≢ leaf_of (take len place)

-- the root over the block isn't what it and the siblings that were read fold to
pub record RootDiffers (root : Node) (levels index : ℕ) (place want have : List ℕ) : Type 0 where
  pub trail : List Twig
  pub len : ℕ
  pub within : len ≤ length place
  pub path : length trail ≡ levels
  pub want_is : want ≡ root.hash
  pub have_is : have ≡ (fold index (take len place) trail).hash
  pub differs : twig_of root ≢ fold index (take len place) trail

-- what is kept at the leaf or at the root over the block isn't of the bytes at the front of the place
abbrev pub IsDamage : Node → ℕ → ℕ → List ℕ → CoreFault → Type 0
IsDamage root levels index place (Damaged (Leaf at) want have) = (at ≡ index) × LeafDiffers place want have
IsDamage root levels index place (Damaged (AtNode number) want have) = (number ≡ root.index) × RootDiffers root levels index place want have
IsDamage root levels index place _ = ⊥

-- the same at the root over an index among the roots of so many blocks
abbrev pub IsDamageUnder : List Node → ℕ → ℕ → List ℕ → CoreFault → Type 0
IsDamageUnder roots blocks index place fault =
    (root : Node) × IsRootOver roots blocks index root × IsDamage root (depth_over blocks index) index place fault

-- a read failed: it was refused, or the view told the fault, or what is kept is damaged
abbrev pub FailsBy : ViewState → ViewState → Type 0 → Type 0 → CoreFault → Type 0
FailsBy old new Refused IsDamaged fault = Refused ⊎ (TellsFault old new fault ⊎ IsDamaged)

-- the view failed in the read
pub record IsStoreFault (old new : ViewState) (fault : CoreFault) : Type 0 where
  pub fault_is : fault ≡ StoreFault
  pub rose : Rose old.faults new.faults

-- a read answers as it is to, with the block at the front of the place, or the view failed in it
abbrev pub ReadsAs : ViewState → ViewState → List ℕ → Result Answer CoreFault → Result ReadAt CoreFault → Type 0
ReadsAs old new place answer (Ok read) = answer ≡ Ok (record { block = take read.len place; trail = read.trail })
ReadsAs old new place answer (Err fault) = (answer ≡ Err fault) ⊎ IsStoreFault old new fault

-- a read answers as it is to, with the block at the front of the place, or the view told a fault in it
abbrev pub ReadsKept : ViewState → ViewState → List ℕ → Result Answer CoreFault → Result ReadAt CoreFault → Type 0
ReadsKept old new place answer (Ok read) = answer ≡ Ok (record { block = take read.len place; trail = read.trail })
ReadsKept old new place answer (Err fault) = (answer ≡ Err fault) ⊎ TellsFault old new fault
