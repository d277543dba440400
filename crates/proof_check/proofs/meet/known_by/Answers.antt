use Rattle.std.proofs.Common.{Bool, sym, ap, ◌∙◌}
use Rattle.std.specs.Prelude.{◌||◌}
use Rattle.node_set.specs.Contents.{held}
use Rattle.proof_check.proofs.Meeting.{knows_root}
use Rattle.proof_check.proofs.meet.known_by.Goals as goal

pub returns-then-is_some : goal.returns-then-is_some
returns-then-is_some g c = λ depth offset root at.
    knows_root c.args.base (held (g.V.View.view c.args.view.now).content) c.args.index c.args.found _ c.if-index-base.false (c.requires.found c.if-index-base.false) (c.if-is_some.true ∙ ap (λ (b : Bool). b || held (g.V.View.view c.args.view.now).content c.args.index) (sym c.if-is_some.true ∙ c.is_some.ensures))
    depth offset root at

pub returns-else-is_some : goal.returns-else-is_some
returns-else-is_some g c = λ depth offset root at.
    knows_root c.args.base (held (g.V.View.view c.args.view.now).content) c.args.index c.args.found _ c.if-index-base.false (c.requires.found c.if-index-base.false) (c.held.ensures ∙ ap (λ (b : Bool). b || held (g.V.View.view c.args.view.now).content c.args.index) (sym c.if-is_some.false ∙ c.is_some.ensures))
    depth offset root at
