-- Laws of the history of a pool.
use Rattle.std.proofs.Common.{◌≡◌, ◌≢◌, ℕ, Bool, true, false, if◌then◌else◌, List, [], ◌∷◌, ◌++◌, refl, sym, ap, ◌∙◌, append_assoc, append-nil, nat_eq, eq-eqb, ne_eqb, true≢false, inl, inr, ⊎_elim}
use Rattle.std.proofs.lemmas.Bool.Decides.{eqb_tells}
use Rattle.region_pool.specs.declared.event.Event.{Event}
use Rattle.region_pool.specs.declared.event.Event.TheVariants.{Took, Gave}
use Rattle.region_pool.specs.History.{none_held, with_place, after, held_after, MayFollow, IsLegal, IsHeld, IsAmong, LeadsTo}

pub held_after-push : (held : ℕ → Bool) (events : List Event) (event : Event) → held_after held (events ++ event ∷ []) ≡ after (held_after held events) event
held_after-push held [] event = refl
held_after-push held (e ∷ events) event = held_after-push (after held e) events event

pub IsLegal-push : (held : ℕ → Bool) (events : List Event) (event : Event) → IsLegal held events → MayFollow (held_after held events) event
    → IsLegal held (events ++ event ∷ [])
IsLegal-push held [] event legal may = (may, tt)
IsLegal-push held (e ∷ events) event legal may = (legal.0, IsLegal-push (after held e) events event legal.1 may)

pub with_place-here : (place : ℕ) (is : Bool) (held : ℕ → Bool) → with_place place is held place ≡ is
with_place-here place is held = ap (λ b. if b then is else held place) (eq-eqb place place refl)

pub with_place-else : (place other : ℕ) (is : Bool) (held : ℕ → Bool) → other ≢ place → with_place place is held other ≡ held other
with_place-else place other is held apart = ap (λ b. if b then is else held other) (ne_eqb other place apart)

-- what is held stays so where another is taken
pub with_place-held : (place other : ℕ) (held : ℕ → Bool) → held other ≡ true → with_place place true held other ≡ true
with_place-held place other held is = either_way (nat_eq other place)
  where
    either_way : (b : Bool) → (if b then true else held other) ≡ true
    either_way true = refl
    either_way false = is

pub LeadsTo-nil : (events : List Event) → LeadsTo [] events
LeadsTo-nil events = record { between = events; whole = refl }

pub LeadsTo-refl : (events : List Event) → LeadsTo events events
LeadsTo-refl events = record { between = []; whole = append-nil events }

pub LeadsTo-trans : (xs ys zs : List Event) → LeadsTo xs ys → LeadsTo ys zs → LeadsTo xs zs
LeadsTo-trans xs ys zs p q =
    record { between = p.between ++ q.between; whole = sym (append_assoc xs p.between q.between) ∙ ap (λ (s : List Event). s ++ q.between) p.whole ∙ q.whole }

pub LeadsTo-push : (xs ys : List Event) (event : Event) → LeadsTo xs ys → LeadsTo xs (ys ++ event ∷ [])
LeadsTo-push xs ys event p = LeadsTo-trans xs ys (ys ++ event ∷ []) p (record { between = event ∷ []; whole = refl })

-- what comes behind some events may follow them
IsLegal-behind : (held : ℕ → Bool) (before behind : List Event) → IsLegal held (before ++ behind) → IsLegal (held_after held before) behind
IsLegal-behind held [] behind legal = legal
IsLegal-behind held (event ∷ before) behind legal = IsLegal-behind (after held event) before behind legal.1

-- a place that is held is given before it is taken
given_between : (held : ℕ → Bool) (between : List Event) (place : ℕ) → held place ≡ true → IsLegal held (between ++ Took place ∷ []) → IsAmong (Gave place) between
given_between held [] place is legal = absurd (true≢false (sym is ∙ legal.0))
given_between held (Took other ∷ between) place is legal =
    inr (given_between (with_place other true held) between place (with_place-held other place held is) legal.1)
given_between held (Gave other ∷ between) place is legal = ⊎_elim
    (λ y. inl (ap (λ p. Gave p) y.1))
    (λ y. inr (given_between (with_place other false held) between place (with_place-else other place false held y.1 ∙ is) legal.1))
    (eqb_tells place other)

pub given_before_taken : (before between : List Event) (place : ℕ) → IsLegal none_held (before ++ (Took place ∷ (between ++ Took place ∷ [])))
    → IsAmong (Gave place) between
given_before_taken before between place legal =
    let behind = IsLegal-behind none_held before (Took place ∷ (between ++ Took place ∷ [])) legal in
    given_between (with_place place true (held_after none_held before)) between place (with_place-here place true (held_after none_held before)) behind.1

pub taken_free : (before : List Event) (place : ℕ) → IsLegal none_held (before ++ Took place ∷ []) → ¬ IsHeld before place
taken_free before place legal is = true≢false (sym is ∙ (IsLegal-behind none_held before (Took place ∷ []) legal).0)
