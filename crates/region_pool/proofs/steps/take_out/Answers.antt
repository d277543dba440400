use Rattle.std.proofs.Common.{◌∷◌, Some, sym, ap, ◌∙◌}
use Rattle.atomic_table.specs.Table.{rest}
use Rattle.region_pool.proofs.steps.take_out.Goals as goal

pub exchange-requires : goal.exchange-requires
exchange-requires g c =
    let is = c.requires.carried.1 in
    (c.requires.here, (Some c.requires.carried.0, is ∙ ap (λ l. (c.args.place, Some c.requires.carried.0) ∷ rest l) (sym is)))
