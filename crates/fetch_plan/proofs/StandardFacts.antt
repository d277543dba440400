-- Worked cases of the definitions, and the number that they name.
use Rattle.std.proofs.Common.{◌≡◌, [], ◌∷◌, nat_eq, ◌||◌, refl}
use Rattle.fetch_plan.specs.declared.in_flight.TheConstants.{MAX_IN_FLIGHT}
use Rattle.fetch_plan.specs.Plan.{plan_of}
use Rattle.fetch_plan.specs.Runs.{after_steps, asked_by, missing}
use Rattle.fetch_plan.specs.Runs.Step.{Pass, Ask, Answer}

most : MAX_IN_FLIGHT ≡ 16
most = refl

-- blocks 4 and 6 of 3..8 are held
missing_of_five : missing (λ index. nat_eq index 4 || nat_eq index 6) 3 8 ≡ 3 ∷ 5 ∷ 7 ∷ []
missing_of_five = refl

asked_of_five : asked_by (plan_of 3 8) (Ask ∷ Pass ∷ Ask ∷ Answer 1 ∷ Pass ∷ Ask ∷ []) ≡ 3 ∷ 5 ∷ 7 ∷ []
asked_of_five = refl

-- then the second and the third request are in flight
in_flight_of_five : (after_steps (plan_of 3 8) (Ask ∷ Pass ∷ Ask ∷ Answer 1 ∷ Pass ∷ Ask ∷ [])).in_flight ≡ (2, 5) ∷ (3, 7) ∷ []
in_flight_of_five = refl
