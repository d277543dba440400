use Rattle.std.proofs.Common.{ap, get_or, ◌∙◌}
use Rattle.std.specs.Prelude.{None}
use Rattle.node_set.proofs.PageLemmas.{filled_same}
use Rattle.node_set.proofs.page.Page.fill.Goals as goal

pub returns-clause-same : goal.returns-clause-same
returns-clause-same c place =
    filled_same c.self.inside.twigs.items _ _ _ c.in-Ok.ensures.items c.self.invariant place ∙ ap (λ xs. get_or xs place None) c.self.view_is
