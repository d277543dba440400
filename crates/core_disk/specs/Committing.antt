-- A change is written, and taken in once it is on the disk.
use Rattle.std.specs.Prelude.{◌≡◌, ◌≢◌, ◌⊎◌, ℕ, ◌≤◌, true, false, List, length, Option, Some, Result, Ok, Err, ⊤}
use Rattle.outside_traits.specs.Faults.{Rose}
use Rattle.disk_trait.specs.Disk.{DiskView}
use Rattle.commit_book.specs.declared.commit.Commit.{Commit}
use Rattle.commit_book.specs.History.{entry_of, KeepsRoot}
use Rattle.merkle_nodes.specs.Roots.{root_hash_of}
use Rattle.merkle_nodes.specs.declared.node.Node.{Node}
use Rattle.merkle_nodes.specs.declared.limit.What.TheVariants.{Oplog as EntriesBytes}
use Rattle.oplog_form.specs.declared.entry.Entry.{Entry}
use Rattle.oplog_form.specs.declared.entry.TheConstants.{MAX_ENTRY_BYTES}
use Rattle.oplog_form.specs.Entries.{entry_spelling}
use Rattle.oplog_file.specs.declared.layout.TheConstants.{MAX_ENTRIES_BYTES}
use Rattle.node_set.specs.declared.fault.CoreFault.{CoreFault}
use Rattle.node_set.specs.declared.fault.Receipt.{Receipt}
use Rattle.node_set.specs.declared.fault.CoreFault.TheVariants.{Memory, Limit, StoreFault, BadStore}
use Rattle.core_disk.specs.declared.replay.ApplyFault.{ApplyFault}
use Rattle.core_disk.specs.declared.replay.ApplyFault.TheVariants.{Memory as NoMemory, DoesntFollow}
use Rattle.core_disk.specs.Bringing.{FindsNoRoom}
use Rattle.core_disk.specs.Opened.{Opened, short_of, entry_after}
use Rattle.core_disk.specs.Following.{follows}
use Rattle.core_disk.specs.InHand.{InHand, opened_of, Agrees, NextRoots, HavePlaces}

-- an entry follows, and keeps the root hash where its commit does
pub record IsFit (e : Entry) (o : Opened) : Type 0 where
  pub follow : follows o e ≡ true
  pub same_root : KeepsRoot (entry_of e.commit (root_hash_of (entry_after o e).roots)) (short_of o)

-- the roots after an entry that follows, and a place for each of its nodes
abbrev pub MakesReady : Entry → InHand → InHand → Result (List Node) ApplyFault → Type 0
MakesReady e old new (Ok roots) = NextRoots (opened_of old) e (Some roots) × HavePlaces new.nodes e.records
MakesReady e old new (Err NoMemory) = ⊤
MakesReady e old new (Err DoesntFollow) = follows (opened_of old) e ≡ false

-- the same where it is fit, and else a fault
abbrev pub IsReady : Entry → InHand → InHand → Result (List Node) CoreFault → Type 0
IsReady e old new (Ok roots) =
    IsFit e (opened_of old) × NextRoots (opened_of old) e (Some roots) × HavePlaces new.nodes e.records
IsReady e old new (Err Memory) = ⊤
IsReady e old new (Err (BadStore area at)) = IsFit e (opened_of old) → ⊥
IsReady e old new (Err other) = ⊥

-- with Ok the entry is done, and else what is in memory stays
abbrev pub TakesIn : Entry → Opened → Opened → Result (Unit {0}) CoreFault → Type 0
TakesIn e old new (Ok _) = IsFit e old × Agrees new (entry_after old e)
TakesIn e old new (Err fault) = new ≡ old

-- why a change isn't taken in: want of memory, or of room behind so many bytes of entries; the disk failed; or its entry isn't fit
abbrev pub IsCommitFault : ℕ → Entry → Opened → DiskView → DiskView → CoreFault → Type 0
IsCommitFault used e o old new Memory = ⊤
IsCommitFault used e o old new (Limit what max) = (what ≡ EntriesBytes) × (max ≡ MAX_ENTRIES_BYTES)
    × (length (entry_spelling e) ≤ MAX_ENTRY_BYTES) × FindsNoRoom used (length (entry_spelling e))
IsCommitFault used e o old new StoreFault = Rose old.faults new.faults
IsCommitFault used e o old new (BadStore area at) = IsFit e o → ⊥
IsCommitFault used e o old new other = ⊥

-- what a change tells once it was written, or its fault; a fault of the disk breaks the core, at the disk's count of faults then
abbrev pub Tells : (Option Commit → Receipt) → Commit → ℕ → Option ℕ → Result (Unit {0}) CoreFault → Option ℕ → Result Receipt CoreFault → Type 0
Tells receipt commit faults was (Ok _) now answer = (answer ≡ Ok (receipt (Some commit))) × (now ≡ was)
Tells receipt commit faults was (Err fault) now answer =
    (answer ≡ Err fault) × (((fault ≡ StoreFault) × (now ≡ Some faults)) ⊎ ((fault ≢ StoreFault) × (now ≡ was)))
