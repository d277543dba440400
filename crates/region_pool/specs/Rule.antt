-- The rule of the words of a pool: there is one legal history, by which a word is 0 where its place is free, and the region
-- of a free place is at home.
use Rattle.std.specs.Prelude.{◌≡◌, ◌≢◌, ℕ, ◌+◌, ◌-◌, false, List, [], ◌∷◌, length, Option, Some, None}
use mathlib.Core.Option.{some}
use lib.ListN.{get_elem?}
use Rattle.atomic_table.specs.Table.{State, Me, Step}
use Rattle.region_pool.specs.declared.event.Event.{Event}
use Rattle.region_pool.specs.declared.event.Event.TheVariants.{Took, Gave}
use Rattle.region_pool.specs.declared.law.Known.{Known}
use Rattle.region_pool.specs.declared.law.TheConstants.{MAX_SEATS}
use Rattle.region_pool.specs.History.{none_held, held_after, IsLegal, IsHeld, LeadsTo, GoesOn}

-- a seat that has seen nothing and holds nothing, with so many parts of the right to close
abbrev pub idle : ℕ → Known
idle parts = record { seen = []; place = None; parts = parts }

-- the first seat, a later one, and one that has ended
abbrev pub founder : Known
founder = idle MAX_SEATS

abbrev pub newcomer : Known
newcomer = idle 1

abbrev pub nobody : Known
nobody = idle 0

-- the first seat when a later one begins, and when it ends
abbrev pub without_part : Known → Known
without_part v = record v { parts = v.parts - 1 }

abbrev pub with_parts : Known → Known → Known
with_parts v w = record v { parts = v.parts + w.parts }

-- the parts of all
abbrev pub parts_of : List Known → ℕ
parts_of [] = 0
parts_of (v ∷ views) = v.parts + parts_of views

-- what the rule says of one seat: it has seen a beginning of the history, its place is held, and without a part it has none
pub record Fits (log : List Event) (v : Known) : Type 0 where
  pub seen : LeadsTo v.seen log
  pub place : (p : ℕ) → v.place ≡ Some p → IsHeld log p
  pub partless : v.parts ≡ 0 → v.place ≡ None

-- a seat holds this place
pub record IsOwned (views : List Known) (p : ℕ) : Type 0 where
  pub by : ℕ
  pub view : Known
  pub there : get_elem? views by ≡ some view
  pub place : view.place ≡ Some p

-- no two seats hold one place
abbrev pub Apart : List Known → Type 0
Apart views = (a b p : ℕ) (v w : Known) → get_elem? views a ≡ some v → get_elem? views b ≡ some w → v.place ≡ Some p → w.place ≡ Some p → a ≡ b

-- the rule
pub record Kept {R : Type 0} (s : State (Option R) Known) : Type 0 where
  pub log : List Event
  pub legal : IsLegal none_held log
  pub even : length s.words ≡ length s.homes
  pub free : (p : ℕ) → get_elem? s.words p ≡ some 0 → held_after none_held log p ≡ false
  pub held : (p n : ℕ) → get_elem? s.words p ≡ some n → n ≢ 0 → IsHeld log p
  pub home : (p : ℕ) → get_elem? s.words p ≡ some 0 → (x : R) × (get_elem? s.homes p ≡ some (some (Some x)))
  pub fits : (by : ℕ) (v : Known) → get_elem? s.views by ≡ some v → Fits log v
  pub apart : Apart s.views
  pub owned : (p : ℕ) → IsHeld log p → IsOwned s.views p
  pub parts : parts_of s.views ≡ MAX_SEATS

-- the word was 0: the place is taken, and its region is out with the seat
pub record Taken {R : Type 0} (place : ℕ) (v w : Me (Option R) Known) : Type 0 where
  pub seen : GoesOn v.0.seen (Took place) w.0.seen
  pub place_is : w.0.place ≡ Some place
  pub parts : w.0.parts ≡ v.0.parts
  pub carried : (x : R) × (w.1 ≡ (place, Some x) ∷ v.1)

-- the word was not 0: the place is held
pub record FoundHeld {R : Type 0} (place : ℕ) (v w : Me (Option R) Known) : Type 0 where
  pub leads : LeadsTo v.0.seen w.0.seen
  pub legal : IsLegal none_held w.0.seen
  pub held : IsHeld w.0.seen place
  pub place_is : w.0.place ≡ v.0.place
  pub parts : w.0.parts ≡ v.0.parts
  pub carried : w.1 ≡ v.1

-- what trying a place tells
pub record Tried {R : Type 0} (step : Step (Option R)) (v : Me (Option R) Known) (found : ℕ) (w : Me (Option R) Known) : Type 0 where
  pub taken : found ≡ 0 → Taken step.word v w
  pub held : found ≢ 0 → FoundHeld step.word v w

-- what giving a place back tells
pub record Given {R : Type 0} (step : Step (Option R)) (v : Me (Option R) Known) (found : ℕ) (w : Me (Option R) Known) : Type 0 where
  pub seen : GoesOn v.0.seen (Gave step.word) w.0.seen
  pub place_is : w.0.place ≡ None
  pub parts : w.0.parts ≡ v.0.parts
  pub carried : w.1 ≡ []
