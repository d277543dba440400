-- Replaying the entries of a change file (docs/FORMATS.md, "The change file").
use Rattle.std.specs.Prelude.{◌≡◌, ◌⊎◌, ℕ, ◌+◌, Bool, true, false, List, Result, Ok, Err, ⊤}
use Rattle.disk_trait.specs.declared.disk.Area.TheVariants.{Oplog}
use Rattle.node_set.specs.declared.fault.CoreFault.{CoreFault}
use Rattle.node_set.specs.declared.fault.CoreFault.TheVariants.{Memory, StoreFault, BadStore}
use Rattle.oplog_form.specs.declared.entry.Entry.{Entry}
use Rattle.oplog_file.specs.declared.layout.TheConstants.{ENTRIES_AT}
use Rattle.oplog_file.specs.Counting.{entry_frames}
use Rattle.oplog_file.specs.Writers.{Place}
use Rattle.oplog_file.specs.Passing.{PassesNext, StandsLast, entry_passed}
use Rattle.core_disk.specs.Opened.{Opened, entry_after}
use Rattle.core_disk.specs.Following.{follows}
use Rattle.core_disk.specs.Areas.{entries_give}
use Rattle.core_disk.specs.InHand.{Agrees}

-- the entry that was passed last is done
pub record DoesPassed (place : Place) (old new : Opened) : Type 0 where
  pub entry : Entry
  pub passed : entry_passed place ≡ Ok entry
  pub follows_is : follows old entry ≡ true
  pub done : Agrees new (entry_after old entry)

-- it is an entry, and doesn't follow
pub record FailsPassed (place : Place) (old : Opened) (at : ℕ) : Type 0 where
  pub entry : Entry
  pub passed : entry_passed place ≡ Ok entry
  pub follows_not : follows old entry ≡ false
  pub at_is : at ≡ ENTRIES_AT + place.last

-- the entry that was passed last is done, or the first place is told that is bad: that of a field, or of the whole entry
abbrev pub AppliesPassed : Place → Opened → Opened → Result (Unit {0}) CoreFault → Type 0
AppliesPassed place old new (Ok _) = DoesPassed place old new
AppliesPassed place old new (Err Memory) = ⊤
AppliesPassed place old new (Err (BadStore area at)) = (area ≡ Oplog) × ((entry_passed place ≡ Err at) ⊎ FailsPassed place old at)
AppliesPassed place old new (Err other) = ⊥

-- the same, with true for one that is done
abbrev pub AppliesNext : Place → Opened → Opened → Result Bool CoreFault → Type 0
AppliesNext place old new (Ok true) = DoesPassed place old new
AppliesNext place old new (Ok false) = ⊥
AppliesNext place old new (Err fault) = AppliesPassed place old new (Err fault)

-- a frame was passed and its entry done
pub record DoesNext (area : List ℕ) (file now : Place) (old new : Opened) : Type 0 where
  pub moves : PassesNext area file now
  pub does : DoesPassed now old new

-- the entry that counts next is done, or there is none, or its first bad place is told; a fault of the outside tells nothing
abbrev pub ReplaysNext : List ℕ → Place → Place → Opened → Opened → Result Bool CoreFault → Type 0
ReplaysNext area file now old new (Ok true) = DoesNext area file now old new
ReplaysNext area file now old new (Ok false) = StandsLast area file now × Agrees new old
ReplaysNext area file now old new (Err Memory) = ⊤
ReplaysNext area file now old new (Err StoreFault) = ⊤
ReplaysNext area file now old new (Err (BadStore place at)) =
    (place ≡ Oplog) × (passed : Place) × PassesNext area file passed × ((entry_passed passed ≡ Err at) ⊎ FailsPassed passed old at)
ReplaysNext area file now old new (Err other) = ⊥

-- what is in memory is what the entries of an epoch give
pub record IsReplayed (area : List ℕ) (epoch : ℕ) (old new : Opened) : Type 0 where
  pub opened : Opened
  pub gives : entries_give 0 old (entry_frames epoch area) ≡ Ok opened
  pub agrees : Agrees new opened

-- the first bad place of the entries of an epoch; a fault of the outside and want of memory tell nothing
abbrev pub TellsBad : List ℕ → ℕ → Opened → CoreFault → Type 0
TellsBad area epoch old Memory = ⊤
TellsBad area epoch old StoreFault = ⊤
TellsBad area epoch old (BadStore place at) = (place ≡ Oplog) × (entries_give 0 old (entry_frames epoch area) ≡ Err at)
TellsBad area epoch old other = ⊥

-- all entries of an epoch are done, or a fault is told
abbrev pub Replays : List ℕ → ℕ → Opened → Opened → Result (Unit {0}) CoreFault → Type 0
Replays area epoch old new (Ok _) = IsReplayed area epoch old new
Replays area epoch old new (Err fault) = TellsBad area epoch old fault
