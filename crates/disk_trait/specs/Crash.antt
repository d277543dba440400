-- What a crash of a disk in memory leaves: of the bytes that weren't synced, a first part in the order of writing.
use Rattle.std.specs.Prelude.{ℕ, ◌-◌, ◌==◌, Bool, true, false, ◌&&◌, ◌||◌, if◌then◌else◌, List, [], ◌∷◌, reverse, length, take}
use Rattle.disk_trait.specs.declared.disk.Area.{Area}
use Rattle.disk_trait.specs.Disk.{is_same, overlay}
use Rattle.disk_trait.specs.Contents.{Contents, content_of, with_content}
use Rattle.disk_trait.specs.History.{Change, wrote, cut_to, synced, Step, changed, until, MemDiskView}

-- the change is a sync
abbrev pub is_sync : Change → Bool
is_sync (wrote at bytes) = false
is_sync (cut_to to) = false
is_sync synced = true

-- one of these steps syncs this area
abbrev pub is_synced_by : Area → List Step → Bool
is_synced_by area [] = false
is_synced_by area (step ∷ steps) = is_same step.area area && is_sync step.change || is_synced_by area steps

-- what a change counts for where it isn't synced: a write for its bytes, and a cut for one
abbrev pub weight : Change → ℕ
weight (wrote at bytes) = length bytes
weight (cut_to to) = 1
weight synced = 0

-- a change of which so many bytes are there
abbrev pub partly : ℕ → Change → List ℕ → List ℕ
partly keep (wrote at bytes) old = overlay at (take keep bytes) old
partly keep (cut_to to) old = if keep == 0 then old else take to old
partly keep synced old = old

-- a step that is there wholly if it is synced, and else as far as the bytes that are kept go
abbrev pub replayed : Bool → ℕ → Step → Contents → Contents
replayed is_whole keep step all =
    let old = content_of all step.area in
    with_content step.area (if is_whole then changed step.change old else partly keep step.change old) all

-- how many bytes are still to be kept after it
abbrev pub left_after : Bool → ℕ → Step → ℕ
left_after is_whole keep step = if is_whole then keep else keep - weight step.change

-- what is left of these steps, of which the oldest comes first: all that a later one syncs, and of the others the
-- first bytes
abbrev pub kept : ℕ → List Step → Contents → Contents
kept keep [] all = all
kept keep (step ∷ steps) all =
    let is_whole = is_synced_by step.area steps in
    kept (left_after is_whole keep step) steps (replayed is_whole keep step all)

-- the disk after a crash at this moment: nothing is planned, and nothing is unsynced
abbrev pub crashed : ℕ → ℕ → MemDiskView → MemDiskView
crashed moment keep disk = record {
  start = kept keep (reverse (until moment disk.steps)) disk.start;
  steps = [];
  room = disk.room;
  left = disk.room.journal;
  planned = [];
  made = 0;
  faults = 0;
}
