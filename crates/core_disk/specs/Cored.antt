-- A core over a disk: its parts, what is seen of it, and what a change does to a disk that a crash can't take.
use Rattle.std.specs.Prelude.{◌≡◌, ◌≢◌, ◌⊎◌, ℕ, Bool, true, ◌+◌, ◌≤◌, ◌&&◌, List, [], ◌∷◌, length, Option, Some, None, Result, Ok, Err, IsTrue}
use Rattle.std.specs.List.{concat}
use Rattle.outside_traits.specs.Faults.{Rose}
use Rattle.disk_trait.specs.declared.disk.Area.TheVariants.{Oplog}
use Rattle.disk_trait.specs.Disk.{DiskView, Elapses, IsImage}
use Rattle.disk_trait.specs.Runs.{LeavesOnly}
use Rattle.commit_book.specs.declared.commit.Commit.{Commit}
use Rattle.merkle_nodes.specs.declared.limit.What.TheVariants.{Oplog as EntriesBytes}
use Rattle.oplog_form.specs.declared.entry.Entry.{Entry}
use Rattle.oplog_form.specs.declared.entry.TheConstants.{MAX_ENTRY_BYTES}
use Rattle.oplog_form.specs.Entries.{entry_spelling}
use Rattle.oplog_file.specs.declared.layout.TheConstants.{MAX_ENTRIES_BYTES}
use Rattle.oplog_file.specs.Files.{File, IsFile, next_frame, NoChance}
use Rattle.oplog_file.specs.Writers.{Place}
use Rattle.node_set.specs.declared.fault.CoreFault.{CoreFault}
use Rattle.node_set.specs.declared.fault.CoreFault.TheVariants.{Broken, StoreFault, Limit}
use Rattle.node_set.specs.declared.fault.Receipt.{Receipt}
use Rattle.node_set.specs.Contents.{Content}
use Rattle.core_state.specs.Events.{Event}
use Rattle.core_state.specs.Events.Event.{Append, Admit}
use Rattle.core_state.specs.Events.Reply.{Done}
use Rattle.core_state.specs.States.{CoreState}
use Rattle.core_state.specs.Next.{Next}
use Rattle.core_disk.specs.InHand.{InHand}
use Rattle.core_disk.specs.Bringing.{FindsNoRoom}
use Rattle.core_disk.specs.Plans.{bytes_in, calls_for, brought_by}
use Rattle.core_disk.specs.Areas.{Areas}
use Rattle.core_disk.specs.Standing.{StandsFor}
use Rattle.core_disk.specs.Written.{IsEntryOf}
use Rattle.core_disk.specs.Testing.{is_whole, has_blocks}
use Rattle.core_disk.specs.Stored.{Stored, blocks_area, content_of}
use Rattle.core_disk.specs.Firm.{IsFirmFor}

-- a disk with what is in memory of it, the place in its change file, who signs, and the count of faults when a change failed
pub record Cored (D A : Type 0) : Type 0 where
  pub store : Stored D
  pub place : Place
  pub auth : A
  pub broken : Option ℕ

-- what is seen of the core: it stands where its disk answers as it tells, its content is whole and each held block is there
abbrev pub core_state : (List ℕ → List ℕ → Bool) → DiskView → InHand → Option ℕ → CoreState
core_state accepts disk hand broken = record {
  content = content_of disk hand;
  accepts = accepts;
  faults = disk.faults;
  broken = broken;
  stands = disk.honest && (is_whole accepts (content_of disk hand) && has_blocks (blocks_area disk) (content_of disk hand));
  fills = true;
}

-- what is seen of a core by what is seen of its disk and what its authority accepts
abbrev pub state_of : {D A : Type 0} → (D → DiskView) → (A → List ℕ → List ℕ → Bool) → Cored D A → CoreState
state_of disk accepts core = core_state (accepts core.auth) (disk core.store.disk) core.store.hand core.broken

-- the content that it shows
abbrev pub shown : {D A : Type 0} → (D → DiskView) → Cored D A → Content
shown disk core = content_of (disk core.store.disk) core.store.hand

-- what is seen of its disk
abbrev pub disk_under : {D A : Type 0} → (D → DiskView) → Cored D A → DiskView
disk_under disk core = disk core.store.disk

-- ---- changes

-- a content that follows an event, and the entry that leads to it
pub record IsNextBy (accepts : List ℕ → List ℕ → Bool) (m : Content) (event : Event) (after : Content) (e : Entry) : Type 0 where
  pub receipt : Receipt
  pub commit : Commit
  pub next : Next accepts m event after (Done (Ok receipt))
  pub commits : receipt.commit ≡ Some commit
  pub is_entry : IsEntryOf m commit after e

-- At each moment of a change a crash leaves areas that stand for the content before it or for one that follows its event, but for what
-- makes frames by chance.
pub record IsBetween (accepts : List ℕ → List ℕ → Bool) (id : List ℕ) (m : Content) (event : Event) (old new : DiskView) : Type 0 where
  pub after : Content
  pub entry : Entry
  pub follows : IsNextBy accepts m event after entry
  pub file : File
  pub is_file : IsFile (old.reads Oplog) file
  pub time : Elapses old new
  pub any_moment : (t : ℕ) (areas : Areas) → old.moment ≤ t → t ≤ new.moment → IsImage new t areas
      → NoChance (next_frame file (entry_spelling entry) ∷ []) (old.reads Oplog) (areas Oplog)
      → StandsFor accepts id areas m ⊎ StandsFor accepts id areas after

-- A change that a crash can't take: at each moment it leaves the content before the change, or that or the one after it. After an answer
-- that isn't a fault of the disk it is firm for the content then.
pub record IsSafeChange (accepts : List ℕ → List ℕ → Bool) (id : List ℕ) (m : Content) (event : Event) (old new : DiskView) (place : Place) (now : Content) (answer : Result Receipt CoreFault) : Type 0 where
  pub any_moment : LeavesOnly old new (λ areas. StandsFor accepts id areas m) ⊎ IsBetween accepts id m event old new
  pub firm : (answer ≢ Err StoreFault) → IsFirmFor accepts id new place now

-- what follows an event has an entry, of no more bytes than one may have, that finds no room behind so many bytes of entries
pub record LacksRoom (accepts : List ℕ → List ℕ → Bool) (m : Content) (event : Event) (used : ℕ) : Type 0 where
  pub after : Content
  pub entry : Entry
  pub follows : IsNextBy accepts m event after entry
  pub few : length (entry_spelling entry) ≤ MAX_ENTRY_BYTES
  pub no_room : FindsNoRoom used (length (entry_spelling entry))

-- the change file would pass the most bytes of its entries, and the disk wasn't called
pub record IsFull {D A : Type 0} (accepts : A → List ℕ → List ℕ → Bool) (m : Content) (event : Event) (old new : Cored D A) (max : ℕ) : Type 0 where
  pub most : max ≡ MAX_ENTRIES_BYTES
  pub untouched : new.store.disk ≡ old.store.disk
  pub room : LacksRoom (accepts old.auth) m event old.place.used

-- the bytes of blocks that an event brings to a content: those of an append, and of a proof's block that isn't held
abbrev pub bytes_of : Event → Content → List ℕ
bytes_of (Append blocks) m = concat blocks
bytes_of (Admit p) m = bytes_in (brought_by p m)
bytes_of event m = []

-- What a change does to the disk of a core: at most two calls for its entry, and two more where it brings bytes of blocks; a fault of the
-- disk breaks the core at the count of faults then, and a broken core answers so and makes no call; of one that stands it is refused at
-- the limit of the change file only where its entry finds no room; and a crash can't take what the disk stands for.
pub record ChangesDisk {D A : Type 0} (disk : D → DiskView) (accepts : A → List ℕ → List ℕ → Bool) (event : Event) (old new : Cored D A) (answer : Result Receipt CoreFault) : Type 0 where
  pub auth : new.auth ≡ old.auth
  pub honest : (disk new.store.disk).honest ≡ (disk old.store.disk).honest
  pub calls : (disk new.store.disk).calls ≤ (disk old.store.disk).calls + (calls_for (bytes_of event (shown disk old)) + 2)
  pub quiet : (count : ℕ) → old.broken ≡ Some count → (answer ≡ Err (Broken count)) × (new.store.disk ≡ old.store.disk)
  pub rose : answer ≡ Err StoreFault → Rose (disk old.store.disk).faults (disk new.store.disk).faults
  pub broke : answer ≡ Err StoreFault → new.broken ≡ Some (disk new.store.disk).faults
  pub breaks : answer ≢ Err StoreFault → new.broken ≡ old.broken
  pub full : (max : ℕ) → IsTrue (state_of disk accepts old).stands → answer ≡ Err (Limit EntriesBytes max)
      → IsFull accepts (shown disk old) event old new max
  pub safe : (id : List ℕ) → IsTrue (disk old.store.disk).honest → old.broken ≡ None
      → IsFirmFor (accepts old.auth) id (disk old.store.disk) old.place (shown disk old)
      → IsSafeChange (accepts old.auth) id (shown disk old) event (disk old.store.disk) (disk new.store.disk) new.place (shown disk new) answer
