-- What a read of a core over a disk leaves as it was, and why it fails.
use Rattle.std.specs.Prelude.{◌≡◌, ◌⊎◌, ℕ, ◌≤◌, List, take, None, Some, Result, Ok, Err, IfErr, IsTrue}
use Rattle.outside_traits.specs.Faults.{Rose}
use Rattle.disk_trait.specs.declared.disk.Area.TheVariants.{Tree}
use Rattle.disk_trait.specs.Disk.{DiskView, Keeps}
use Rattle.node_set.specs.declared.fault.CoreFault.{CoreFault}
use Rattle.node_set.specs.declared.fault.CoreFault.TheVariants.{Broken, OutOfRange, Unavailable, StoreFault, BadStore, Damaged}
use Rattle.node_set.specs.Contents.{Content, held, roots}
use Rattle.node_set.specs.Views.{is_of_store}
use Rattle.core_snap.specs.declared.snapshot.ReadAt.{ReadAt}
use Rattle.core_snap.specs.Reads.{read_of}
use Rattle.core_snap.specs.Causes.{read_refusal, IsDamageUnder}
use Rattle.core_disk.specs.Laid.{SizesFit}
use Rattle.core_disk.specs.Fitting.{IsUnfitRecord}
use Rattle.core_disk.specs.Cored.{Cored, shown, disk_under}

-- A call that only read: the core's content, its place in the change file, who signs and whether it is broken stay, no fault is forgotten, and
-- its disk reads as before, and a crash leaves of it what it could leave before.
pub record OnlyReads {D A : Type 0} (disk : D → DiskView) (old new : Cored D A) : Type 0 where
  pub content : shown disk new ≡ shown disk old
  pub place : new.place ≡ old.place
  pub auth : new.auth ≡ old.auth
  pub broken : new.broken ≡ old.broken
  pub honest : (disk_under disk new).honest ≡ (disk_under disk old).honest
  pub faults : (disk_under disk old).faults ≤ (disk_under disk new).faults
  pub keeps : IsTrue (disk_under disk old).honest → Keeps (disk_under disk old) (disk_under disk new)

-- the index is refused: it isn't below the length, or its block isn't held
abbrev pub IsReadRefusal : Content → ℕ → CoreFault → Type 0
IsReadRefusal m index fault = read_refusal m.length (held m) index ≡ Some fault

-- why a read of an index has no answer, over every disk
abbrev pub FailsToRead : {D A : Type 0} → (D → DiskView) → Cored D A → Cored D A → ℕ → List ℕ → CoreFault → Type 0
FailsToRead disk old new index place (Broken count) = old.broken ≡ Some count
FailsToRead disk old new index place (OutOfRange end) = IsReadRefusal (shown disk old) index (OutOfRange end)
FailsToRead disk old new index place (Unavailable at) = IsReadRefusal (shown disk old) index (Unavailable at)
FailsToRead disk old new index place StoreFault = Rose (disk_under disk old).faults (disk_under disk new).faults
FailsToRead disk old new index place (BadStore Tree at) = IsUnfitRecord (shown disk old) at
FailsToRead disk old new index place (Damaged at want have) =
    IsDamageUnder (roots (shown disk old)) (shown disk old).length index place (Damaged at want have)
FailsToRead disk old new index place fault = ⊥

-- a read answers what the content gives, with each hash recomputed, but for a fault of the disk or a record that isn't in its range
abbrev pub AsKept : Content → ℕ → List ℕ → Result ReadAt CoreFault → Type 0
AsKept m index place (Ok read) = read_of m index ≡ Ok (record { block = take read.len place; trail = read.trail })
AsKept m index place (Err fault) = (read_of m index ≡ Err fault) ⊎ IsTrue (is_of_store fault)

-- A read of an index: it is refused exactly where it is to be, each fault has its cause, and where the disk answers as it tells and no node is
-- too large, what the disk has decides.
pub record ReadsBlock {D A : Type 0} (disk : D → DiskView) (old new : Cored D A) (index : ℕ) (place : List ℕ) (answer : Result ReadAt CoreFault) : Type 0 where
  pub refused : (fault : CoreFault) → old.broken ≡ None → IsReadRefusal (shown disk old) index fault → answer ≡ Err fault
  pub fails : IfErr answer (FailsToRead disk old new index place)
  pub kept : old.broken ≡ None → IsTrue (disk_under disk old).honest → SizesFit (shown disk old).node → AsKept (shown disk old) index place answer
