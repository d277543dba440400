use Rattle.std.proofs.Common.{ap, length, ◌∙◌, arith}
use Rattle.core_disk.proofs.CutPlans.{truncate_planned}
use Rattle.core_disk.proofs.cutting.plan_truncate.Goals as goal

pub returns-clause-plan : goal.returns-clause-plan
returns-clause-plan g c =
    let v = g.V.View.view c.args.view.now in
    let cut = c.in-Ok.ensures.answers in
    let copies = c.put_copies.ensures.items ∙ c.as_slice.ensures.items in (
      cut.0,
      truncate_planned (g.A.Verifier.accepts c.args.auth.now) v c.args.to c.args.fork c.in-Ok.change.roots c.put_copies.new.to.items c.head_over.result
          c.head-head.ensures.usable cut.0 cut.1.roots_are (copies ∙ cut.1.fresh) (omega (arith, ap length c.put_copies.ensures.items, c.as_slice.ensures.room))
          c.put_copies.ensures.hashes c.head_over.ensures,
    )
