use Rattle.log_view.proofs.Laying.{usable_over}
use Rattle.log_view.proofs.overlay.OverlayView.head.Goals as goal

pub returns-clause-usable : goal.returns-clause-usable
returns-clause-usable g c =
    let o = c.args.self.now in
    usable_over o.below.ghost_name (g.V.View.view o.below.now).source o.head o.roots.now o.kept o.laid.now o.is_laid
