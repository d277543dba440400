use Rattle.std.proofs.Common.{sym, ap, ◌∙◌, arith, length}
use Rattle.flat_tree.specs.Roots.{full_roots_of}
use Rattle.flat_tree.proofs.RootLemmas.{length-numbers}
use Rattle.node_set.specs.Closure.{in_closure}
use Rattle.node_set.specs.Contents.{held}
use Rattle.log_change.proofs.Reading.{missing_here, missing_next, missing_done}
use Rattle.log_change.proofs.roots.missing_root.Goals as goal

pub returns-then-not-is_stored : goal.returns-then-not-is_stored
returns-then-not-is_stored g c =
    let m = (g.V.View.view c.args.view.now).source.content in
    sym (missing_here c.args.to _ _ _ _ c.full_roots-numbers.ensures.numbers c.len-at-end.ensures.len c.loop-at-test.true c.at-index.ensures
    (in_closure m.length (held m)) c.loop-at.invariant c.if-not-is_stored.ensures)

pub loop-at-preserved : goal.loop-at-preserved
loop-at-preserved g c =
    let m = (g.V.View.view c.args.view.now).source.content in
    missing_next c.args.to _ _ _ _ c.full_roots-numbers.ensures.numbers c.len-at-end.ensures.len c.loop-at-test.true c.at-index.ensures
    (in_closure m.length (held m)) c.loop-at.invariant c.if-not-is_stored.ensures

pub returns : goal.returns
returns g c =
    let m = (g.V.View.view c.args.view.now).source.content in
    sym (missing_done c.args.to c.loop-at.at (in_closure m.length (held m))
    (omega (arith, c.loop-at-test.false, c.len-at-end.ensures.len, length-numbers c.full_roots-numbers.result (full_roots_of c.args.to) c.full_roots-numbers.ensures.numbers))
    c.loop-at.invariant)
