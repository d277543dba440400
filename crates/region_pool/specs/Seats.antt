-- What clauses see of a pool and of a seat, and what the calls do to them.
use Rattle.std.specs.Prelude.{◌≡◌, ℕ, ◌-◌, ◌<◌, ◌≤◌, Bool, false, slice_index_or, List, [], ◌∷◌, Option, Some, None}
use Rattle.atomic_table.specs.Seated.{TableId}
use Rattle.atomic_table.specs.declared.shared.Seat.{Seat}
use Rattle.atomic_table.specs.declared.badge.Badge.{Badge}
use Rattle.region_pool.specs.declared.event.Event.{Event}
use Rattle.region_pool.specs.declared.event.Event.TheVariants.{Took, Gave}
use Rattle.region_pool.specs.declared.law.Known.{Known}
use Rattle.region_pool.specs.declared.law.TheConstants.{MAX_SEATS}
use Rattle.region_pool.specs.Rule.{nobody}
use Rattle.region_pool.specs.History.{none_held, IsLegal, IsHeld, LeadsTo, GoesOn}

-- which pool it is
abbrev pub PoolName : Type 0
PoolName = TableId

-- a pool: which it is, and how many places it has
pub record PoolView : Type 0 where
  pub pool : PoolName
  pub places : ℕ

-- the right to close a pool: which pool, and how many seats were made
pub record EndView : Type 0 where
  pub pool : PoolName
  pub seats : ℕ

-- a seat: of which pool it is, the beginning of the history that it has seen, and the place that it holds
pub record SeatView : Type 0 where
  pub pool : PoolName
  pub seen : List Event
  pub place : Option ℕ

-- what a seat carries: the empty slot of the place that it holds
abbrev pub carried_of : {R : Type 0} → Option ℕ → List (ℕ × Option R)
carried_of None = []
carried_of (Some place) = (place, None) ∷ []

-- the place was taken in this call
pub record TakesPlace (place : ℕ) (old new : SeatView) : Type 0 where
  pub pool : new.pool ≡ old.pool
  pub place_is : new.place ≡ Some place
  pub seen : GoesOn old.seen (Took place) new.seen

-- the place was given in this call
pub record GivesPlace (place : ℕ) (old new : SeatView) : Type 0 where
  pub pool : new.pool ≡ old.pool
  pub place_is : new.place ≡ None
  pub seen : GoesOn old.seen (Gave place) new.seen

-- at a moment of the history between these the place was held
pub record WasHeld (old new : List Event) (place : ℕ) : Type 0 where
  pub moment : List Event
  pub since : LeadsTo old moment
  pub until : LeadsTo moment new
  pub legal : IsLegal none_held moment
  pub held : IsHeld moment place

-- each place below this number was found held in this call
pub record FindsHeld (places : ℕ) (old new : SeatView) : Type 0 where
  pub pool : new.pool ≡ old.pool
  pub place_is : new.place ≡ old.place
  pub leads : LeadsTo old.seen new.seen
  pub held : (place : ℕ) → place < places → WasHeld old.seen new.seen place

-- a seat carries the empty slot of the place that it holds, which is one of the table's
pub record IsSeated {R : Type 0} (chair : Seat (Option R) Known) : Type 0 where
  pub carried : chair.me.1 ≡ carried_of chair.me.0.place
  pub within : (place : ℕ) → chair.me.0.place ≡ Some place → place < chair.table_id.words
  pub part : chair.me.0.parts ≡ 1

-- a pool's table has a slot for each word, one at least
pub record IsLaid (at : TableId) (places : ℕ) : Type 0 where
  pub words : at.words ≡ places
  pub slots : at.slots ≡ places
  pub some : 0 < places

-- a pool's first seat holds nothing, and has this many parts
pub record IsFirst {R : Type 0} (at : TableId) (first : Seat (Option R) Known) (parts : ℕ) : Type 0 where
  pub here : first.table_id ≡ at
  pub empty : first.me.0.place ≡ None
  pub bare : first.me.1 ≡ []
  pub parts_are : first.me.0.parts ≡ parts

-- the view of a seat that is put by
abbrev pub view_of : List Known → Known
view_of [] = nobody
view_of (view ∷ views) = view

-- the first seat of a pool, put by, holds nothing, and has the parts that the others don't have
pub record IsEnd (first : Badge Known) (seats : ℕ) : Type 0 where
  pub few : seats ≤ MAX_SEATS
  pub one : first.views ≡ view_of first.views ∷ []
  pub empty : (view_of first.views).place ≡ None
  pub parts_are : (view_of first.views).parts ≡ MAX_SEATS - seats

-- a seat of this pool that holds nothing
pub record IsIdle (pool : PoolName) (seat : SeatView) : Type 0 where
  pub pool_is : seat.pool ≡ pool
  pub empty : seat.place ≡ None

-- this place was found held in this call
pub record FindsPlaceHeld (place : ℕ) (old new : SeatView) : Type 0 where
  pub pool : new.pool ≡ old.pool
  pub place_is : new.place ≡ old.place
  pub leads : LeadsTo old.seen new.seen
  pub legal : IsLegal none_held new.seen
  pub held : IsHeld new.seen place

-- a seat of this pool that has seen nothing and holds nothing
abbrev pub new_seat : PoolName → SeatView
new_seat pool = record { pool = pool; seen = []; place = None }

-- none of so many slots is filled
abbrev pub IsEmptied : List Bool → ℕ → Type 0
IsEmptied filled count = (place : ℕ) → place < count → slice_index_or filled place false ≡ false
