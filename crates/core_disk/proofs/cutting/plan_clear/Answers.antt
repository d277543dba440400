use Rattle.std.proofs.Common.{◌≡◌, length, rules, sym, ap, ◌∙◌}
use Rattle.core_disk.proofs.CutPlans.{clear_planned}
use Rattle.core_disk.proofs.cutting.plan_clear.Goals as goal

pub returns-in-Ok-clause-plan : goal.returns-in-Ok-clause-plan
returns-in-Ok-clause-plan g c =
    let v = g.V.View.view c.args.view.now in
    let given = c.in-Ok.ensures.answers in
    let wide : length c.head-head.result.signature ≡ 64 = search rules in (
      given.0,
      clear_planned v c.args.from c.args.to c.in-Ok.change c.head-head.ensures.usable (sym (ap length c.head-head.ensures.signature) ∙ wide) given.0 given.1
          c.is_some.result c.is_some.ensures,
    )
