-- What is seen of a disk, and what its calls do to it.
use Rattle.std.specs.Prelude.{◌≡◌, ◌↔◌, ℕ, ◌+◌, ◌-◌, ◌^◌, ◌≤◌, ◌==◌, min, max, Bool, false, List, [], ◌∷◌, ◌++◌, length, take, drop, replicate, Result, IfOk, OnOk}
use Rattle.outside_traits.specs.Faults.{HasCause}
use Rattle.disk_trait.specs.declared.disk.Area.{Area}
use Rattle.disk_trait.specs.declared.disk.Area.TheVariants.{Oplog, Tree, BitsA, BitsB, Blocks}
use Rattle.disk_trait.specs.Past.{Past}

-- what is seen of a disk: whether it answers as it tells, what each area reads as, what a crash at each moment so far
-- may leave of each area, what it went through, this moment, and its counts
pub record DiskView : Type 1 where
  pub honest : Bool
  pub reads : Area → List ℕ
  pub image : ℕ → Area → List ℕ → Type 0
  pub past : Past
  pub moment : ℕ
  pub faults : ℕ
  pub calls : ℕ

-- where an area stands among the five
abbrev pub place_of : Area → ℕ
place_of Oplog = 0
place_of Tree = 1
place_of BitsA = 2
place_of BitsB = 3
place_of Blocks = 4

-- two areas are one
abbrev pub is_same : Area → Area → Bool
is_same a b = place_of a == place_of b

-- an area with these bytes at this place: the others stay, a gap before them is zeros, and no bytes change nothing
abbrev pub overlay : ℕ → List ℕ → List ℕ → List ℕ
overlay at [] old = old
overlay at (b ∷ bytes) old = take at old ++ replicate (at - length old) 0 ++ (b ∷ bytes) ++ drop (at + length (b ∷ bytes)) old

-- a write of n bytes that was cut short: any bytes in its range and past the old end, and the others stay
pub record Torn (at n : ℕ) (old new : List ℕ) : Type 0 where
  pub no_shorter : length old ≤ length new
  pub no_longer : length new ≤ max (length old) (at + n)
  pub front : (i : ℕ) → i ≤ at → i ≤ length old → take i new ≡ take i old
  pub rest : drop (at + n) new ≡ drop (at + n) old

-- a cut that was cut short: any length between, and the bytes below it stay
pub record Cut (to : ℕ) (old new : List ℕ) : Type 0 where
  pub no_shorter : min to (length old) ≤ length new
  pub front : new ≡ take (length new) old

-- time goes on: what a crash could leave at a moment before stays what it could leave then
pub record Elapses (old new : DiskView) : Type 0 where
  pub later : old.moment ≤ new.moment
  pub past : (t : ℕ) (area : Area) (c : List ℕ) → t ≤ old.moment → (new.image t area c ↔ old.image t area c)

-- an area reads as before, and since then a crash leaves of it nothing that it couldn't leave before
pub record Rests (area : Area) (old new : DiskView) : Type 0 where
  pub reads : new.reads area ≡ old.reads area
  pub images : (t : ℕ) (c : List ℕ) → old.moment ≤ t → t ≤ new.moment → new.image t area c → old.image old.moment area c

-- an area goes by this step, and since then a crash leaves of it what it could leave before, or a step on from that
pub record Goes (step : List ℕ → List ℕ → Type 0) (area : Area) (old new : DiskView) : Type 0 where
  pub reads : step (old.reads area) (new.reads area)
  pub images : (t : ℕ) (c : List ℕ) → old.moment ≤ t → t ≤ new.moment → new.image t area c
      → (d : List ℕ) × old.image old.moment area d × step d c

-- this area alone goes by a step
pub record Touches (step : List ℕ → List ℕ → Type 0) (area : Area) (old new : DiskView) : Type 0 where
  pub time : Elapses old new
  pub here : Goes step area old new
  pub others : (other : Area) → is_same area other ≡ false → Rests other old new

-- no area is touched
pub record Keeps (old new : DiskView) : Type 0 where
  pub time : Elapses old new
  pub each : (area : Area) → Rests area old new

-- no step was made since
pub record IsOnePast (old new : DiskView) : Type 0 where
  pub past : new.past ≡ old.past
  pub later : old.moment ≤ new.moment

-- a crash now leaves of this area what a read gives
abbrev pub IsSynced : Area → DiskView → Type 0
IsSynced area disk = (c : List ℕ) → disk.image disk.moment area c → c ≡ disk.reads area

-- nothing is unsynced
abbrev pub IsSettled : DiskView → Type 0
IsSettled disk = (area : Area) → IsSynced area disk

-- a crash at this moment may leave the areas like this
abbrev pub IsImage : DiskView → ℕ → (Area → List ℕ) → Type 0
IsImage disk t areas = (area : Area) → disk.image t area (areas area)

-- as it reads is one of the ways in which a crash now may leave it
abbrev pub MayStay : DiskView → Type 0
MayStay disk = IsImage disk disk.moment disk.reads

-- a read from this place into old_into: as many bytes as the area has there, and the rest of the place stays
pub record ReadsAt (at : ℕ) (area old_into new_into : List ℕ) (n : ℕ) : Type 0 where
  pub count : n ≡ min (length old_into) (length area - at)
  pub bytes : new_into ≡ take n (drop at area) ++ drop n old_into

-- each call is counted, keeps a disk honest and tells whether it was, and fails only where the count of faults rose
pub record Counts {T E : Type 0} (old new : DiskView) (answer : Result T E) : Type 0 where
  pub honest : new.honest ≡ old.honest
  pub calls : new.calls ≡ min (old.calls + 1) (2 ^ 64 - 1)
  pub cause : HasCause old.faults new.faults answer

-- what a read of so many bytes from a place does
pub record Reads {E : Type 0} (area : Area) (at : ℕ) (old_into new_into : List ℕ) (old new : DiskView) (answer : Result ℕ E) : Type 0 where
  pub keeps : Keeps old new
  pub past : new.past ≡ old.past
  pub ok : IfOk answer (ReadsAt at (old.reads area) old_into new_into)

-- what asking for a size does
pub record Sizes {E : Type 0} (area : Area) (old new : DiskView) (answer : Result ℕ E) : Type 0 where
  pub keeps : Keeps old new
  pub past : new.past ≡ old.past
  pub ok : IfOk answer (λ n. n ≡ length (old.reads area))

-- a write that fails is made wholly, in part or not at all
pub record Writes {T E : Type 0} (area : Area) (at : ℕ) (bytes : List ℕ) (old new : DiskView) (answer : Result T E) : Type 0 where
  pub touches : Touches (Torn at (length bytes)) area old new
  pub ok : OnOk answer (new.reads area ≡ overlay at bytes (old.reads area))

-- a cut that fails is made wholly, in part or not at all
pub record Cuts {T E : Type 0} (area : Area) (to : ℕ) (old new : DiskView) (answer : Result T E) : Type 0 where
  pub touches : Touches (Cut to) area old new
  pub ok : OnOk answer (new.reads area ≡ take to (old.reads area))

-- after a sync that succeeds a crash leaves what a read gives
pub record Syncs {T E : Type 0} (area : Area) (old new : DiskView) (answer : Result T E) : Type 0 where
  pub keeps : Keeps old new
  pub ok : OnOk answer (IsSynced area new)
