-- Runs of a plan: the indices that a fetch asks for.
use Rattle.std.specs.Prelude.{◌≡◌, ℕ, ◌-◌, ◌<◌, Bool, true, false, not, List, [], ◌∷◌, length, filter, ⊤}
use Rattle.std.specs.List.{range_with_len}
use Rattle.fetch_plan.specs.declared.in_flight.TheConstants.{MAX_IN_FLIGHT}
use Rattle.fetch_plan.specs.Plan.{PlanView, after_pass, after_ask, after_answer}

-- the next index is passed over or asked for, or the request of an id is answered
pub data Step : Type 0 where
  Pass Ask : Step
  Answer : ℕ → Step

-- the plan after a step
abbrev pub after_step : PlanView → Step → PlanView
after_step p Pass = after_pass p
after_step p Ask = after_ask p
after_step p (Answer id) = after_answer id p

-- the plan after each of some steps
abbrev pub after_steps : PlanView → List Step → PlanView
after_steps p [] = p
after_steps p (step ∷ steps) = after_steps (after_step p step) steps

-- the indices that the steps ask for, in their order
abbrev pub asked_by : PlanView → List Step → List ℕ
asked_by p [] = []
asked_by p (Ask ∷ steps) = p.next ∷ asked_by (after_ask p) steps
asked_by p (step ∷ steps) = asked_by (after_step p step) steps

-- a fetch may take the step: it passes over an index that was held when it was looked at, and asks for one that wasn't, where a request
-- more may be in flight
abbrev pub MayTake : (ℕ → Bool) → PlanView → Step → Type 0
MayTake held p Pass = (p.next < p.to) × (held p.next ≡ true)
MayTake held p Ask = (p.next < p.to) × (held p.next ≡ false) × (length p.in_flight < MAX_IN_FLIGHT)
MayTake held p (Answer id) = ⊤

-- each of the steps is one that it may take
abbrev pub MayTakeAll : (ℕ → Bool) → PlanView → List Step → Type 0
MayTakeAll held p [] = ⊤
MayTakeAll held p (step ∷ steps) = MayTake held p step × MayTakeAll held (after_step p step) steps

-- the indices from..to that aren't held, in ascending order
abbrev pub missing : (ℕ → Bool) → ℕ → ℕ → List ℕ
missing held from to = filter (λ index. not (held index)) (range_with_len from (to - from))
