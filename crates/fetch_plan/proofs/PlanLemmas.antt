-- What is in flight was looked at, and has ids that were given.
use Rattle.std.proofs.Common.{◌≡◌, ℕ, ◌+◌, ◌<◌, ◌≤◌, List, nat_eq, false, not, None, arith, inl, inr}
use Rattle.std.specs.Prelude.{IfSome}
use Rattle.std.specs.Map.{lookup}
use Rattle.std.proofs.lemmas.Bool.{cases_Bool, eqb-true}
use Rattle.std.proofs.lemmas.List.Elements.{All-weaker, All-filter, recursion_from_All}
use Rattle.std.proofs.lemmas.Map.{lookup-none}
use Rattle.std.proofs.lemmas.Map.Entries.{All-lookup}
use Rattle.fetch_plan.specs.Requests.{Request, without}
use Rattle.fetch_plan.specs.Plan.{IsAsked, IsPlan}

later_differs : (last id : ℕ) → id ≤ last → nat_eq (last + 1) id ≡ false
later_differs last id within = elim (cases_Bool (nat_eq (last + 1) id)) [
  | inl same ↦ absurd (omega (arith, within, eqb-true (last + 1) id same))
  | inr other ↦ other
]

module _ (next last : ℕ) (in_flight : List Request) (plan : IsPlan next last in_flight) where
  -- the next id isn't in flight
  pub next_id : lookup (nat_eq (last + 1)) in_flight ≡ None
  next_id =
      lookup-none (nat_eq (last + 1)) in_flight (recursion_from_All _ in_flight
      (All-weaker (IsAsked next last) (λ (request : Request). nat_eq (last + 1) request.0 ≡ false) (λ request held. later_differs last request.0 held.0) in_flight plan.asked))

  -- an index that is asked for was looked at
  pub looked_at : (id : ℕ) → IfSome (lookup (nat_eq id) in_flight) (λ index. index < next)
  looked_at id = All-lookup (λ index. index < next) (nat_eq id) in_flight (All-weaker (IsAsked next last) (λ (request : Request). request.1 < next) (λ request held. held.1) in_flight plan.asked)

  -- the requests that are left are such ones
  pub answered_plan : (id : ℕ) → IsPlan next last (without id in_flight)
  answered_plan id = record { few = plan.few; asked = All-filter (λ (request : Request). not (nat_eq id request.0)) (IsAsked next last) in_flight plan.asked }
