mod RequestLemmas
mod PlanLemmas
mod RunLemmas
mod StandardFacts
