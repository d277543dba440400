-- The whole order of opening a core's disk: what each part of it tells, and what is opened (docs/FORMATS.md, "The change file").
use Rattle.std.specs.Prelude.{◌≡◌, ◌⊎◌, ℕ, ◌<◌, ◌≤◌, Bool, List, [], Result, Ok, Err, IsErrOf, ⊤}
use Rattle.outside_traits.specs.Faults.{Rose}
use Rattle.disk_trait.specs.declared.disk.Area.{Area}
use Rattle.disk_trait.specs.declared.disk.Area.TheVariants.{Oplog, Tree, BitsA, BitsB, Blocks}
use Rattle.disk_trait.specs.Disk.{DiskView, IsSynced, IsImage}
use Rattle.merkle_nodes.specs.Roots.{Accepts}
use Rattle.oplog_file.specs.Files.{File, IsFile}
use Rattle.oplog_file.specs.Writers.{Place, new_file, IsTrim, IsFirmFile}
use Rattle.node_set.specs.declared.fault.CoreFault.{CoreFault}
use Rattle.node_set.specs.declared.fault.CoreFault.TheVariants.{Memory, StoreFault, BadStore, Damaged, BadSignature}
use Rattle.node_set.specs.Contents.{Content, start}
use Rattle.core_disk.specs.Opened.{Opened}
use Rattle.core_disk.specs.Areas.{Areas, head_of, areas_give}
use Rattle.core_disk.specs.InHand.{InHand, Agrees, opened_of}
use Rattle.core_disk.specs.Standing.{StandsFor}
use Rattle.core_disk.specs.Filling.{over_tree, IsFilled, IsFirstLarge, AreSmall}

-- calls keep a disk honest and tell whether it was, and fail as a store only where the count of faults rose
pub record KeepsCounts {T : Type 0} (old new : DiskView) (answer : Result T CoreFault) : Type 0 where
  pub honest : new.honest ≡ old.honest
  pub kept : old.faults ≤ new.faults
  pub rose : IsErrOf answer StoreFault → Rose old.faults new.faults

-- the turn of an area: an entry in the change file stands on all others
abbrev pub turn_of : Area → ℕ
turn_of Tree = 0
turn_of BitsA = 1
turn_of BitsB = 2
turn_of Blocks = 3
turn_of Oplog = 4

-- the areas whose turn was are synced
abbrev pub AreSynced : ℕ → DiskView → Type 0
AreSynced turn disk = (area : Area) → turn_of area < turn → IsSynced area disk

-- an area is empty, now and after each crash
pub record IsCleared (area : Area) (disk : DiskView) : Type 0 where
  pub synced : IsSynced area disk
  pub empty : disk.reads area ≡ []

-- the areas whose turn was are cleared
abbrev pub AreCleared : ℕ → DiskView → Type 0
AreCleared turn disk = (area : Area) → turn_of area < turn → IsCleared area disk

-- a disk has a new file with this payload of its header, now and after each crash, and else nothing
pub record HasNewFile (payload : List ℕ) (disk : DiskView) : Type 0 where
  pub is_file : IsFile (disk.reads Oplog) (new_file payload)
  pub trim : IsTrim (new_file payload) (disk.reads Oplog)
  pub firm_file : IsFirmFile (new_file payload) disk
  pub cleared : AreCleared (turn_of Oplog) disk

-- the verifier accepts the head over the roots, or it was never signed
abbrev pub HasSignedHead : (List ℕ → List ℕ → Bool) → Opened → Type 0
HasSignedHead accepts o = Accepts accepts o.head.fork o.head.length o.roots o.head.signature ⊎ (o.head ≡ head_of start)

-- with the tree area's nodes under its own it is what the areas give; none of its own is larger than a core
pub record IsLoaded (id : List ℕ) (areas : Areas) (now : Opened) : Type 0 where
  pub file : File
  pub is_file : IsFile (areas Oplog) file
  pub opened : Opened
  pub gives : areas_give id areas ≡ Ok opened
  pub agrees : Agrees (over_tree (areas Tree) now) opened
  pub small : AreSmall now.nodes

-- what the areas give is in memory but for the tree area's nodes, or their first fault is told
abbrev pub Loads : List ℕ → Areas → Result (Place × InHand) CoreFault → Type 0
Loads id areas (Ok loaded) = IsLoaded id areas (opened_of loaded.1)
Loads id areas (Err Memory) = ⊤
Loads id areas (Err StoreFault) = ⊤
Loads id areas (Err (BadStore place at)) = (place ≡ Oplog) × (areas_give id areas ≡ Err (BadStore Oplog at))
Loads id areas (Err (Damaged place want have)) = areas_give id areas ≡ Err (Damaged place want have)
Loads id areas (Err other) = ⊥

-- the head isn't signed; or it is, and the first node is told that is too large. A fault of the outside and want of memory tell
-- nothing
abbrev pub TellsUnfit : (List ℕ → List ℕ → Bool) → List ℕ → Opened → CoreFault → Type 0
TellsUnfit accepts tree old Memory = ⊤
TellsUnfit accepts tree old StoreFault = ⊤
TellsUnfit accepts tree old BadSignature = HasSignedHead accepts old → ⊥
TellsUnfit accepts tree old (BadStore area at) = HasSignedHead accepts old × (area ≡ Tree) × IsFirstLarge (over_tree tree old) at
TellsUnfit accepts tree old other = ⊥

-- the head is signed and the nodes are there, or it is told why not
abbrev pub Completes : (List ℕ → List ℕ → Bool) → List ℕ → Opened → Opened → Result (Unit {0}) CoreFault → Type 0
Completes accepts tree old new (Ok _) = HasSignedHead accepts old × IsFilled (over_tree tree old) new
Completes accepts tree old new (Err fault) = TellsUnfit accepts tree old fault

-- the same, with the file
abbrev pub Finishes : (List ℕ → List ℕ → Bool) → List ℕ → Opened → Result (Place × InHand) CoreFault → Type 0
Finishes accepts tree old (Ok opened) = HasSignedHead accepts old × IsFilled (over_tree tree old) (opened_of opened.1)
Finishes accepts tree old (Err fault) = TellsUnfit accepts tree old fault

-- ---- the whole

-- the areas give this, its head is signed, and it is in memory with each node that is to be stored, none of them too large
pub record IsStore (accepts : List ℕ → List ℕ → Bool) (id : List ℕ) (areas : Areas) (now : Opened) : Type 0 where
  pub opened : Opened
  pub gives : areas_give id areas ≡ Ok opened
  pub signed : HasSignedHead accepts opened
  pub filled : IsFilled opened now

-- the areas give what has a head that isn't signed
pub record IsUnsigned (accepts : List ℕ → List ℕ → Bool) (id : List ℕ) (areas : Areas) : Type 0 where
  pub opened : Opened
  pub gives : areas_give id areas ≡ Ok opened
  pub unsigned : HasSignedHead accepts opened → ⊥

-- the areas give what has a signed head, and of its nodes the first that is too large stands at this place
pub record IsTooLarge (accepts : List ℕ → List ℕ → Bool) (id : List ℕ) (areas : Areas) (at : ℕ) : Type 0 where
  pub opened : Opened
  pub gives : areas_give id areas ≡ Ok opened
  pub signed : HasSignedHead accepts opened
  pub first : IsFirstLarge opened at

-- what opening the areas answers: what they give, or the first fault. A fault of the outside and want of memory tell nothing
abbrev pub OpensStore : (List ℕ → List ℕ → Bool) → List ℕ → Areas → Result (Place × InHand) CoreFault → Type 0
OpensStore accepts id areas (Ok opened) = IsStore accepts id areas (opened_of opened.1)
OpensStore accepts id areas (Err Memory) = ⊤
OpensStore accepts id areas (Err StoreFault) = ⊤
OpensStore accepts id areas (Err BadSignature) = IsUnsigned accepts id areas
OpensStore accepts id areas (Err (BadStore Tree at)) = IsTooLarge accepts id areas at
OpensStore accepts id areas (Err (BadStore place at)) = areas_give id areas ≡ Err (BadStore place at)
OpensStore accepts id areas (Err (Damaged place want have)) = areas_give id areas ≡ Err (Damaged place want have)
OpensStore accepts id areas (Err other) = ⊥

-- a crash left the areas as it could before, or such that they stand for a content
abbrev pub StayOrStand : (List ℕ → List ℕ → Bool) → List ℕ → DiskView → Content → Areas → Type 0
StayOrStand accepts id old m areas = IsImage old old.moment areas ⊎ StandsFor accepts id areas m
