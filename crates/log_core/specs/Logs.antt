-- What a log is asked to apply, and what that does to it.
use Rattle.std.specs.Prelude.{◌≡◌, ◌≢◌, ℕ, Bool, true, ◌+◌, ◌≤◌, ◌⊎◌, List, [], ◌∷◌, length, Result, IsTrue, IsSome, MatchResult}
use Rattle.std.specs.List.{AllByRecursion}
use Rattle.outside_traits.specs.Faults.{Rose}
use Rattle.flat_tree.specs.declared.limits.TheConstants.{MAX_BLOCKS, MAX_FORK, MAX_CORE_BYTES}
use Rattle.commit_book.specs.History.{is_between}
use Rattle.merkle_nodes.specs.declared.limit.What.TheVariants.{Oplog}
use Rattle.merkle_nodes.specs.declared.node.Node.{Node}
use Rattle.merkle_nodes.specs.Roots.{HasShape, root_hash_of}
use Rattle.node_set.specs.declared.fault.CoreFault.{CoreFault}
use Rattle.node_set.specs.declared.fault.CoreFault.TheVariants.{Memory, StoreFault, BadStore, Damaged, Limit}
use Rattle.disk_trait.specs.declared.disk.Area.{Area}
use Rattle.node_set.specs.declared.fault.Place.{Place}
use Rattle.node_set.specs.Contents.{Content, held, holds, roots}
use Rattle.node_set.specs.Whole.{IsSound, KeepsLimits}
use Rattle.log_view.specs.Views.{ViewState, Source, IsUsable}
use Rattle.log_change.specs.declared.change.LogChange.{LogChange}
use Rattle.log_change.specs.LogChange.{blocks_after, content_after, head_of, MayCommit}
use Rattle.log_core.specs.declared.log.Blocks.{Blocks as BlocksInMemory}
use Rattle.log_core.specs.declared.log.Blocks.TheVariants.{NoBlock as NoBlockInMemory, One as OneInMemory, Many as ManyInMemory}

-- blocks in memory as values
abbrev pub blocks_of : BlocksInMemory → List (List ℕ)
blocks_of NoBlockInMemory = []
blocks_of (OneInMemory bytes) = bytes.now ∷ []
blocks_of (ManyInMemory blobs) = blobs.now

-- the store failed, or what it has isn't in its form, or not what was kept
abbrev pub IsOfStore : CoreFault → Type 0
IsOfStore fault = (fault ≡ StoreFault) ⊎ (((area : Area) × (at : ℕ) × (fault ≡ BadStore area at))
    ⊎ ((place : Place) × (want : List ℕ) × (have : List ℕ) × (fault ≡ Damaged place want have)))

-- the change of a content is committed under a head with these roots and their hash, has so many blocks to come, and takes away those
-- past its length
pub record Fits (m : Content) (change : LogChange) (root : List ℕ) (come : List (List ℕ)) : Type 0 where
  pub blocks : change.head.length ≤ MAX_BLOCKS
  pub fork : change.head.fork ≤ MAX_FORK
  pub shape : HasShape change.roots change.head.length
  pub sizes : AllByRecursion (λ (node : Node). node.size ≤ MAX_CORE_BYTES) change.roots
  pub root_is : root ≡ root_hash_of change.roots
  pub count : change.come.to ≡ change.come.from + length come
  pub come_within : change.come.to ≤ change.head.length
  pub gone_ordered : change.gone.from ≤ change.gone.to
  pub gone_within : change.gone.to ≤ m.length
  pub cut : (index : ℕ) → held m index ≡ true → change.head.length ≤ index
      → is_between change.gone.from change.gone.to index ≡ true
  pub committed : IsSome change.commit
  pub legal : MayCommit m change

-- the content that the change leads to is sound, within the limits, and has these roots
pub record Leads (m : Content) (change : LogChange) (come : List (List ℕ)) (fresh : List Node) : Type 0 where
  pub sound : IsSound (content_after change come fresh m)
  pub limits : KeepsLimits (content_after change come fresh m)
  pub roots_are : change.roots ≡ roots (content_after change come fresh m)

-- the log has the change's head, roots and held blocks, and where it shows its content, it shows the one that the change leads to
pub record Applied (old new : Source) (change : LogChange) (come : List (List ℕ)) (fresh : List Node) : Type 0 where
  -- it was within the limits that every view keeps
  pub usable : IsUsable old.content
  pub head : head_of new.content ≡ change.head
  pub roots_are : roots new.content ≡ change.roots
  pub held_are : (index : ℕ) → held new.content index ≡ holds (blocks_after change come old.content.block) index
  pub shows : IsTrue old.shows → IsTrue new.shows
  pub content : IsTrue old.shows → new.content ≡ content_after change come fresh old.content
  pub reports : (fault : CoreFault) → new.reports fault ≡ old.reports fault

-- why a change isn't applied: there is no memory, the store failed, or the area of commits has no capacity
abbrev pub HasApplyReason : Bool → Bool → ViewState → ViewState → CoreFault → Type 0
HasApplyReason takes fills old new fault = ((fault ≡ Memory) × IsTrue takes)
    ⊎ (((fault ≡ StoreFault) × Rose old.faults new.faults) ⊎ ((max : ℕ) × (fault ≡ Limit Oplog max) × IsTrue fills))

-- a change isn't applied: the content stays, and where the store didn't fail, all that is seen
pub record NotApplied (takes fills : Bool) (old new : ViewState) (fault : CoreFault) : Type 0 where
  pub reason : HasApplyReason takes fills old new fault
  pub content : new.source.content ≡ old.source.content
  pub same : fault ≢ StoreFault → new.source ≡ old.source

-- a change is applied or isn't, and no count falls
pub record Applies {T : Type 0} (takes fills : Bool) (old new : ViewState) (change : LogChange) (come : List (List ℕ)) (fresh : List Node) (answer : Result T CoreFault)
    : Type 0 where
  pub later : old.moment ≤ new.moment
  pub faults : old.faults ≤ new.faults
  pub does : MatchResult answer (λ _. Applied old.source new.source change come fresh) (NotApplied takes fills old new)
