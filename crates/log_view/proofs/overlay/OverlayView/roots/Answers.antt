use Rattle.log_view.proofs.Laying.{roots_are_over}
use Rattle.log_view.proofs.overlay.OverlayView.roots.Goals as goal

pub returns : goal.returns
returns g c =
    let o = c.args.self.now in
    roots_are_over o.below.ghost_name (g.V.View.view o.below.now).source o.head o.roots.now o.kept o.laid.now o.is_laid
