use Rattle.std.proofs.Common.{ℕ, Some, subst, sym, ◌∙◌, ap}
use Rattle.core_shelf.specs.declared.memory.Place.TheVariants.{Out}
use Rattle.core_shelf.specs.Memory.{Puts}
use Rattle.core_shelf.proofs.Places.{puts_one, faults_here}
use Rattle.core_shelf.proofs.memory.take_out.Goals as goal

pub returns-clause-puts : goal.returns-clause-puts
returns-clause-puts c =
    subst (λ (n : ℕ). Puts c.args.id.now (Some (Out n)) c.args.places.now c.insert.new.self)
    (faults_here _ _ _ c.faults_here-faults.ensures (sym c.in-Ok-Some-Here.ensures.old ∙ c.in-Ok-Some-Here.field-0-is ∙ ap (λ p. Some p) c.in-Ok-Some-Here.field-0-0-is)) (puts_one _ _ _ _ c.in-Ok-Some-Here.ensures.updates)
