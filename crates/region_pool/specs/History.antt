-- The history of a pool: which places are held after some events, and which lists of events are legal.
use Rattle.std.specs.Prelude.{◌≡◌, ℕ, Bool, true, false, nat_eq, if◌then◌else◌, List, [], ◌∷◌, ◌++◌, ◌⊎◌}
use Rattle.region_pool.specs.declared.event.Event.{Event}
use Rattle.region_pool.specs.declared.event.Event.TheVariants.{Took, Gave}

-- no place is held
abbrev pub none_held : ℕ → Bool
none_held place = false

-- this place is held or not, and each other one as before
abbrev pub with_place : ℕ → Bool → (ℕ → Bool) → ℕ → Bool
with_place place is held other = if nat_eq other place then is else held other

-- which places are held after an event
abbrev pub after : (ℕ → Bool) → Event → ℕ → Bool
after held (Took place) = with_place place true held
after held (Gave place) = with_place place false held

-- which places are held after some events, oldest first, where these were held before
abbrev pub held_after : (ℕ → Bool) → List Event → ℕ → Bool
held_after held [] = held
held_after held (event ∷ events) = held_after (after held event) events

-- what is taken was free, and what is given was held
abbrev pub MayFollow : (ℕ → Bool) → Event → Type 0
MayFollow held (Took place) = held place ≡ false
MayFollow held (Gave place) = held place ≡ true

-- each event may come where it stands, so no place is held twice
abbrev pub IsLegal : (ℕ → Bool) → List Event → Type 0
IsLegal held [] = Unit {0}
IsLegal held (event ∷ events) = MayFollow held event × IsLegal (after held event) events

-- the place is held after these events of a new pool
abbrev pub IsHeld : List Event → ℕ → Type 0
IsHeld events place = held_after none_held events place ≡ true

-- the later list has the earlier one in front
pub record LeadsTo (earlier later : List Event) : Type 0 where
  pub between : List Event
  pub whole : earlier ++ between ≡ later

-- the history went on from what was seen to this event
pub record GoesOn (old : List Event) (event : Event) (new : List Event) : Type 0 where
  pub before : List Event
  pub leads : LeadsTo old before
  pub event_is : new ≡ before ++ event ∷ []
  pub legal : IsLegal none_held new

-- the event is one of these
abbrev pub IsAmong : Event → List Event → Type 0
IsAmong event [] = ⊥
IsAmong event (first ∷ events) = (event ≡ first) ⊎ IsAmong event events
