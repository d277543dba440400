use Rattle.std.proofs.Common.{Option, subst, sym, ◌∙◌}
use Rattle.core_shelf.specs.declared.memory.Place.{Place}
use Rattle.core_shelf.specs.Memory.{Puts}
use Rattle.core_shelf.proofs.Places.{puts_one, made_none}
use Rattle.core_shelf.proofs.memory.prepare.Goals as goal

-- the disk that was made is put where none was
pub returns-in-Ok-clause-ok : goal.returns-in-Ok-clause-ok
returns-in-Ok-clause-ok c =
    subst (λ (p : Option Place). Puts c.args.id.now p c.args.places.now c.insert.new.self)
    (made_none _ _ _ (sym c.contains_key.ensures ∙ c.if-contains_key.false) c.in_ok-disk.ensures.fresh) (puts_one _ _ _ _ c.in-Ok.ensures.updates)
