use Rattle.std.proofs.Common.{◌∙◌, sym, arith}
use Rattle.node_set.specs.Contents.{held}
use Rattle.proof_check.proofs.HeldLemmas.{any_leaf, place_below, half_fits, left_stored}
use Rattle.proof_check.proofs.held.any_held.Goals as goal

pub returns-then-depth-eq0-clause-any : goal.returns-then-depth-eq0-clause-any
returns-then-depth-eq0-clause-any g c = c.held.ensures ∙ any_leaf (held (g.V.View.view c.args.view.now).content) c.args.depth c.args.offset c.if-depth-eq0.true

pub overflow_mul-offset : goal.overflow_mul-offset
overflow_mul-offset g c = omega (arith, place_below c.args.depth c.args.offset, c.requires.root.within, c.requires.usable.blocks)

pub index-requires-clause-offset : goal.index-requires-clause-offset
index-requires-clause-offset g c =
    half_fits c.args.depth c.args.offset (g.V.View.view c.args.view.now).content.length c.if-depth-eq0.false c.requires.root.within c.requires.usable.blocks c.requires.few

pub returns-in-Ok-clause-any : goal.returns-in-Ok-clause-any
returns-in-Ok-clause-any g c =
    let m = (g.V.View.view c.args.view.now).content in
    c.is_some.ensures
    ∙ c.in-Ok.ensures.gives.closed _ _ (sym c.index.ensures.number)
    ∙ left_stored m.length (held m) c.args.depth c.args.offset c.if-depth-eq0.false c.requires.root.within
