-- How a disk in memory keeps its steps: a row for each, and the bytes of all writes in one list.
use Rattle.std.specs.Prelude.{ℕ, ◌+◌, ◌*◌, ◌^◌, ◌<◌, ◌≤◌, Bool, true, false, ◌&&◌, ◌||◌, List, [], ◌∷◌, map, reverse, length, take, drop, Vec, vec_capacity, ⊤}
use Rattle.std.specs.List.{All}
use Rattle.std.specs.declared.alloc.Global.{Global}
use Rattle.disk_trait.specs.declared.disk.Area.{Area}
use Rattle.disk_trait.specs.declared.disk.Area.TheVariants.{Oplog, Tree, BitsA, BitsB, Blocks}
use Rattle.disk_trait.specs.declared.journal.TheConstants.{ROW_BYTES}
use Rattle.disk_trait.specs.declared.journal.Kind.{Kind}
use Rattle.disk_trait.specs.declared.journal.Kind.TheVariants.{Write, Cut, Sync}
use Rattle.disk_trait.specs.declared.journal.Row.{Row}
use Rattle.disk_trait.specs.declared.replay.Syncs.{Syncs}
use Rattle.disk_trait.specs.Disk.{is_same}
use Rattle.disk_trait.specs.History.{Change, wrote, cut_to, synced, Step}

-- the change of a row, whose bytes lie in the payload
abbrev pub change_in : List ℕ → Kind → Change
change_in payload (Write at from len) = wrote at (take len (drop from payload))
change_in payload (Cut to) = cut_to to
change_in payload Sync = synced

-- the step of a row
abbrev pub step_in : List ℕ → Row → Step
step_in payload row = record { call = row.call; area = row.area; change = change_in payload row.kind }

-- the steps, newest first
abbrev pub steps_in : List ℕ → List Row → List Step
steps_in payload rows = reverse (map (step_in payload) rows)

-- the bytes of a write are there, and its end is a number
abbrev pub HasBytes : List ℕ → Kind → Type 0
HasBytes payload (Write at from len) = (from + len ≤ length payload) × (at + len < 2 ^ 64)
HasBytes payload (Cut to) = ⊤
HasBytes payload Sync = ⊤

-- the bytes of each row lie in the payload
abbrev pub RowsHaveBytes : List ℕ → List Row → Type 0
RowsHaveBytes payload rows = All (λ row. HasBytes payload row.kind) rows

-- what a journal tells: its steps, newest first, and how many bytes of its room are left
pub record JournalView : Type 0 where
  pub steps : List Step
  pub left : ℕ

-- the writes' bytes are there, and what is left of the room is memory that was taken
pub record IsKept (rows : Vec Row Global) (payload : Vec ℕ Global) (left : ℕ) : Type 0 where
  pub bytes : RowsHaveBytes payload.items rows.items
  pub rows_room : ROW_BYTES * length rows.items + left ≤ ROW_BYTES * vec_capacity rows
  pub payload_room : length payload.items + left ≤ vec_capacity payload

-- the row is of a sync
abbrev pub is_sync_kind : Kind → Bool
is_sync_kind (Write at from len) = false
is_sync_kind (Cut to) = false
is_sync_kind Sync = true

-- this row is a sync of this area
abbrev pub is_sync_of : Area → Row → Bool
is_sync_of area row = is_same row.area area && is_sync_kind row.kind

-- one of these rows is a sync of this area
abbrev pub has_sync : Area → List Row → Bool
has_sync area [] = false
has_sync area (row ∷ rows) = is_sync_of area row || has_sync area rows

-- the number of an area's last sync
abbrev pub last_of : Syncs → Area → ℕ
last_of syncs Oplog = syncs.oplog
last_of syncs Tree = syncs.tree
last_of syncs BitsA = syncs.bits_a
last_of syncs BitsB = syncs.bits_b
last_of syncs Blocks = syncs.blocks
