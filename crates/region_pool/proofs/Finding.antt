-- What a call that tries one place after the other has found.
use Rattle.std.proofs.Common.{ℕ, ◌+◌, List, refl, sym, ◌∙◌, arith, subst, ⊎_elim}
use Rattle.std.proofs.lemmas.Bool.Decides.{eqb_tells}
use Rattle.region_pool.specs.declared.event.Event.{Event}
use Rattle.region_pool.specs.History.{LeadsTo}
use Rattle.region_pool.specs.Seats.{SeatView, WasHeld, FindsHeld, FindsPlaceHeld, TakesPlace}
use Rattle.region_pool.proofs.EventLemmas.{LeadsTo-refl, LeadsTo-trans}

pub FindsHeld-start : (seat : SeatView) → FindsHeld 0 seat seat
FindsHeld-start seat = record { pool = refl; place_is = refl; leads = LeadsTo-refl seat.seen; held = λ place below. absurd (omega (arith, below)) }

-- what was held at a moment was so before more was seen
WasHeld-later : (old mid new : List Event) (place : ℕ) → LeadsTo mid new → WasHeld old mid place → WasHeld old new place
WasHeld-later old mid new place leads was =
    record { moment = was.moment; since = was.since; until = LeadsTo-trans was.moment mid new was.until leads; legal = was.legal; held = was.held }

pub FindsHeld-step : (places : ℕ) (old mid new : SeatView) → FindsHeld places old mid → FindsPlaceHeld places mid new → FindsHeld (places + 1) old new
FindsHeld-step places old mid new so_far one = record {
  pool = one.pool ∙ so_far.pool;
  place_is = one.place_is ∙ so_far.place_is;
  leads = LeadsTo-trans old.seen mid.seen new.seen so_far.leads one.leads;
  held = λ place below. ⊎_elim
      (λ y. subst (WasHeld old.seen new.seen) (sym y.1) last)
      (λ y. WasHeld-later old.seen mid.seen new.seen place one.leads (so_far.held place (omega (arith, below, y.1))))
      (eqb_tells place places);
}
  where
    last : WasHeld old.seen new.seen places
    last = record {
      moment = new.seen;
      since = LeadsTo-trans old.seen mid.seen new.seen so_far.leads one.leads;
      until = LeadsTo-refl new.seen;
      legal = one.legal;
      held = one.held;
    }

-- a place is taken behind some that were held
pub TakesPlace-later : (places place : ℕ) (old mid new : SeatView) → FindsHeld places old mid → TakesPlace place mid new → TakesPlace place old new
TakesPlace-later places place old mid new so_far takes = record {
  pool = takes.pool ∙ so_far.pool;
  place_is = takes.place_is;
  seen = record {
    before = takes.seen.before;
    leads = LeadsTo-trans old.seen mid.seen takes.seen.before so_far.leads takes.seen.leads;
    event_is = takes.seen.event_is;
    legal = takes.seen.legal;
  };
}
