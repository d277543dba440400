use Rattle.std.proofs.Common.{refl}
use Rattle.std.proofs.lemmas.Result.{IfOk-weaker}
use Rattle.log_view.proofs.Laying.{gives_laid, gives_below}
use Rattle.log_view.proofs.overlay.OverlayView.node.Goals as goal

pub returns-in-Some-clause-gives : goal.returns-in-Some-clause-gives
returns-in-Some-clause-gives g c =
    let o = c.args.self.now in
    gives_laid o.below.ghost_name (g.V.View.view o.below.now).source o.head o.roots.now o.kept o.laid.now o.is_laid c.args.index c.in-Some.node
    c.requires.stored c.in-Some.ensures.numbered c.in-Some.ensures.among

pub returns-in-None-clause-gives : goal.returns-in-None-clause-gives
returns-in-None-clause-gives g c =
    let o = c.args.self.now in
    let s = (g.V.View.view o.below.now).source in
    IfOk-weaker c.node.result _ _ (λ node gives.
    gives_below o.below.ghost_name s o.head o.roots.now o.kept o.laid.now o.is_laid c.args.index node c.requires.stored (c.in-None.ensures.none refl) gives)
    c.node.ensures.gives
