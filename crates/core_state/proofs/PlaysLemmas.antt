-- What a list of steps did so far, and one step more at its end.
use Rattle.std.proofs.Common.{◌≡◌, ℕ, Bool, ◌+◌, ◌<◌, List, [], ◌∷◌, ◌++◌, length, get_or, take, map, Option, Ok, Err, refl, sym, ap, subst, ◌∙◌, append_assoc}
use Rattle.std.proofs.lemmas.List.{take-map, map_more, length-map}
use Rattle.core_state.specs.declared.playing.Kept.{Kept}
use Rattle.core_state.specs.declared.playing.Step.{Step}
use Rattle.core_state.specs.Events.{Event}
use Rattle.core_state.specs.States.{CoreState}
use Rattle.core_state.specs.Plays.{event_of_step, PlaysOne, Stays, Plays, AddsReplies}

-- one step more
plays-push : (takes : Bool) (old middle new : CoreState) (events : List (Option Event)) (event : Option Event) (kept : List Kept) (one : Kept) → Plays takes old events middle kept
    → PlaysOne takes middle event new one → Plays takes old (events ++ event ∷ []) new (kept ++ one ∷ [])
plays-push takes old middle new [] event [] one so_far next = (new, subst (λ (state : CoreState). PlaysOne takes state event new one) so_far next, refl)
plays-push takes old middle new (first ∷ events) event (reply ∷ kept) one so_far next =
    (so_far.0, so_far.1, plays-push takes so_far.0 middle new events event kept one so_far.2 next)
plays-push takes old middle new [] event (reply ∷ kept) one so_far next = absurd so_far
plays-push takes old middle new (first ∷ events) event [] one so_far next = absurd so_far

-- so many steps were played, and what is kept of them was added
pub record PlayedSoFar (takes : Bool) (old : CoreState) (steps : List Step) (count : ℕ) (now : CoreState) (before replies : List Kept) : Type 0 where
  pub kept : List Kept
  pub added : replies ≡ before ++ kept
  pub plays : Plays takes old (map event_of_step (take count steps)) now kept

pub played_more : (takes : Bool) (old middle new : CoreState) (steps : List Step) (count : ℕ) (step : Step) (before replies after : List Kept) (one : Kept)
    → count < length steps → step ≡ get_or steps count step
    → PlayedSoFar takes old steps count middle before replies → after ≡ replies ++ one ∷ [] → PlaysOne takes middle (event_of_step step) new one
    → PlayedSoFar takes old steps (count + 1) new before after
played_more takes old middle new steps count step before replies after one less is so_far added next =
    let one_more : map event_of_step (take (count + 1) steps) ≡ map event_of_step (take count steps) ++ event_of_step step ∷ [] =
    map_more event_of_step steps count step less ∙ ap (λ (s : Step). map event_of_step (take count steps) ++ event_of_step s ∷ []) (sym is) in
    record {
      kept = so_far.kept ++ one ∷ [];
      added = added ∙ ap (λ (xs : List Kept). xs ++ one ∷ []) so_far.added ∙ append_assoc before so_far.kept (one ∷ []);
      plays = subst (λ (events : List (Option Event)). Plays takes old events new (so_far.kept ++ one ∷ [])) (sym one_more)
          (plays-push takes old middle new (map event_of_step (take count steps)) (event_of_step step) so_far.kept one so_far.plays next);
    }

-- the first of the events are those of the first steps
first_events : (takes : Bool) (old now : CoreState) (steps : List Step) (count : ℕ) (kept : List Kept) → Plays takes old (map event_of_step (take count steps)) now kept
    → Plays takes old (take count (map event_of_step steps)) now kept
first_events takes old now steps count kept plays =
    subst (λ (events : List (Option Event)). Plays takes old events now kept) (sym (take-map event_of_step count steps)) plays

-- all were
pub played_all : {E : Type 0} (takes : Bool) (old now : CoreState) (steps : List Step) (before replies : List Kept)
    → PlayedSoFar takes old steps (length steps) now before replies → AddsReplies {E = E} takes old (map event_of_step steps) now before replies (Ok tt)
played_all takes old now steps before replies so_far = record {
  kept = so_far.kept;
  added = so_far.added;
  played = record {
    count = length steps;
    middle = now;
    plays = first_events takes old now steps (length steps) so_far.kept so_far.plays;
    all = λ ok. (sym (length-map steps event_of_step), refl);
    stopped = λ err. let no : ⊥ = cc in absurd no;
  };
}

-- want of memory stopped them
pub played_part : {E : Type 0} (takes : Bool) (old middle new : CoreState) (steps : List Step) (count : ℕ) (before replies after : List Kept) (error : E)
    → PlayedSoFar takes old steps count middle before replies → after ≡ replies → Stays middle new
    → AddsReplies takes old (map event_of_step steps) new before after (Err error)
played_part takes old middle new steps count before replies after error so_far same stays = record {
  kept = so_far.kept;
  added = same ∙ so_far.added;
  played = record {
    count = count;
    middle = middle;
    plays = first_events takes old middle steps count so_far.kept so_far.plays;
    all = λ ok. let no : ⊥ = cc in absurd no;
    stopped = λ err. stays;
  };
}
