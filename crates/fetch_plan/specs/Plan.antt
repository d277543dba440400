-- The plan of a fetch: what is still to be looked at, and which requests are in flight.
use Rattle.std.specs.Prelude.{◌≡◌, ◌⊎◌, ℕ, ◌+◌, ◌<◌, ◌≤◌, List, [], ◌∷◌, ◌++◌, length}
use Rattle.std.specs.List.{All}
use Rattle.fetch_plan.specs.declared.in_flight.TheConstants.{MAX_IN_FLIGHT}
use Rattle.fetch_plan.specs.declared.plan.Look.{Look}
use Rattle.fetch_plan.specs.declared.plan.Look.TheVariants.{Next, Wait, Done}
use Rattle.fetch_plan.specs.Requests.{Request, without}

-- The indices from `next` to `to` are still to be looked at. `last` is the id of the last request, and those in flight stand in the
-- order of their ids.
pub record PlanView : Type 0 where
  pub next : ℕ
  pub to : ℕ
  pub last : ℕ
  pub in_flight : List Request

-- the plan of a range of which nothing was looked at
abbrev pub plan_of : ℕ → ℕ → PlanView
plan_of from to = record { next = from; to = to; last = 0; in_flight = [] }

-- the next index is passed over
abbrev pub after_pass : PlanView → PlanView
after_pass p = record { next = p.next + 1; to = p.to; last = p.last; in_flight = p.in_flight }

-- the next index is asked for, by a request with the next id
abbrev pub after_ask : PlanView → PlanView
after_ask p = record { next = p.next + 1; to = p.to; last = p.last + 1; in_flight = p.in_flight ++ (p.last + 1, p.next) ∷ [] }

-- the request of an id was answered
abbrev pub after_answer : ℕ → PlanView → PlanView
after_answer id p = record { next = p.next; to = p.to; last = p.last; in_flight = without id p.in_flight }

-- what is to be done: look at the next index, where one is left and fewer requests than the most are in flight; nothing more, where none
-- is left and none in flight; and else wait for an answer
abbrev pub Looks : PlanView → Look → Type 0
Looks p (Next index) = (index ≡ p.next) × (p.next < p.to) × (length p.in_flight < MAX_IN_FLIGHT)
Looks p Wait = (0 < length p.in_flight) × ((p.to ≤ p.next) ⊎ (MAX_IN_FLIGHT ≤ length p.in_flight))
Looks p Done = (p.to ≤ p.next) × (p.in_flight ≡ [])

-- a request whose id was given and whose index was looked at
abbrev pub IsAsked : ℕ → ℕ → Request → Type 0
IsAsked next last request = (request.0 ≤ last) × (request.1 < next)

-- at most one id was given for each index, and each request in flight is one that was asked
pub record IsPlan (next last : ℕ) (in_flight : List Request) : Type 0 where
  pub few : last ≤ next
  pub asked : All (IsAsked next last) in_flight
