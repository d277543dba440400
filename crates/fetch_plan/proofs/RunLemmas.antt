-- What is asked for, and what is still missing, are together what was missing.
use Rattle.std.proofs.Common.{◌≡◌, ℕ, suc, ◌+◌, ◌-◌, ◌<◌, ◌≤◌, Bool, true, false, not, List, [], ◌∷◌, ◌++◌, length, filter, refl, sym, ap, ◌∙◌, arith, nat_eq, length-append}
use Rattle.std.specs.List.{range_with_len}
use Rattle.std.proofs.lemmas.List.{append-nil}
use Rattle.std.proofs.lemmas.List.Filters.{length-filter_both}
use Rattle.fetch_plan.specs.declared.in_flight.TheConstants.{MAX_IN_FLIGHT}
use Rattle.fetch_plan.specs.Requests.{Request}
use Rattle.fetch_plan.specs.Plan.{PlanView, after_pass, after_ask, after_answer}
use Rattle.fetch_plan.specs.Runs.{Step, after_step, after_steps, asked_by, MayTakeAll, missing}
use Rattle.fetch_plan.specs.Runs.Step.{Pass, Ask, Answer}

module _ (held : ℕ → Bool) where
  -- the range from an index within it has it in front
  range_next : (from to : ℕ) → from < to → range_with_len from (to - from) ≡ from ∷ range_with_len (from + 1) (to - (from + 1))
  range_next from to less = let count : to - from ≡ suc (to - (from + 1)) = omega (arith, less) in rw count refl

  -- an index that is held isn't missing, and one that isn't is
  missing_held : (from to : ℕ) → from < to → held from ≡ true → missing held from to ≡ missing held (from + 1) to
  missing_held from to less is = ap (filter (λ index. not (held index))) (range_next from to less) ∙ rw is refl

  missing_next : (from to : ℕ) → from < to → held from ≡ false → missing held from to ≡ from ∷ missing held (from + 1) to
  missing_next from to less is = ap (filter (λ index. not (held index))) (range_next from to less) ∙ rw is refl

  pub asked_and_missing : (p : PlanView) (steps : List Step) → MayTakeAll held p steps
      → asked_by p steps ++ missing held (after_steps p steps).next p.to ≡ missing held p.next p.to
  asked_and_missing p [] may = refl
  asked_and_missing p (Pass ∷ steps) may = asked_and_missing (after_pass p) steps may.1 ∙ sym (missing_held p.next p.to may.0.0 may.0.1)
  asked_and_missing p (Ask ∷ steps) may =
      ap (λ more. p.next ∷ more) (asked_and_missing (after_ask p) steps may.1) ∙ sym (missing_next p.next p.to may.0.0 may.0.1)
  asked_and_missing p (Answer id ∷ steps) may = asked_and_missing (after_answer id p) steps may.1

  -- the range stays
  same_end : (p : PlanView) (steps : List Step) → (after_steps p steps).to ≡ p.to
  same_end p [] = refl
  same_end p (step ∷ steps) = same_end (after_step p step) steps ∙ after_one p step
    where
      after_one : (p : PlanView) (step : Step) → (after_step p step).to ≡ p.to
      after_one p Pass = refl
      after_one p Ask = refl
      after_one p (Answer id) = refl

  -- behind the range nothing is missing
  pub all_asked : (p : PlanView) (steps : List Step) → MayTakeAll held p steps → (after_steps p steps).to ≤ (after_steps p steps).next
      → asked_by p steps ≡ missing held p.next p.to
  all_asked p steps may ended =
      let after = after_steps p steps in
      let none : p.to - after.next ≡ 0 = omega (arith, ended, same_end p steps) in
      let rest : missing held after.next p.to ≡ [] = rw none refl in
      sym (append-nil _) ∙ ap (λ more. asked_by p steps ++ more) (sym rest) ∙ asked_and_missing p steps may

  -- few requests stay few
  pub stays_few : (p : PlanView) (steps : List Step) → MayTakeAll held p steps → length p.in_flight ≤ MAX_IN_FLIGHT
      → length (after_steps p steps).in_flight ≤ MAX_IN_FLIGHT
  stays_few p [] may few = few
  stays_few p (Pass ∷ steps) may few = stays_few (after_pass p) steps may.1 few
  stays_few p (Ask ∷ steps) may few = stays_few (after_ask p) steps may.1 (omega (arith, may.0.2, length-append p.in_flight ((p.last + 1, p.next) ∷ [])))
  stays_few p (Answer id ∷ steps) may few = stays_few (after_answer id p) steps may.1 (omega (
    arith,
    few,
    length-filter_both (λ (request : Request). nat_eq id request.0) (λ (request : Request). not (nat_eq id request.0)) (λ request. refl) p.in_flight,
  ))
