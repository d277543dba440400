use Rattle.std.proofs.Common.{[], ◌∷◌, arith, length-append}
use Rattle.oplog_form.proofs.NodeLoops.{nodes_go_on, nodes_fail, nodes_done}
use Rattle.oplog_form.proofs.nodes.nodes_from.Goals as goal

pub returns-in-Err : goal.returns-in-Err
returns-in-Err c = nodes_fail c.loop-index.nodes c.args.numbers.now c.loop-index.index-index c.loop-index.from _ _ c.loop-index-test.true c.in-Err.ensures c.loop-index.invariant.0

pub loop-index-preserved : goal.loop-index-preserved
loop-index-preserved c = (
  rw (c.push.ensures, c.numbered.ensures) (nodes_go_on c.loop-index.nodes c.args.numbers.now c.loop-index.index-index c.loop-index.from c.in-Ok.twig _ _ c.loop-index-test.true c.in-Ok.ensures c.loop-index.invariant.0),
  rw c.push.ensures (omega (arith, length-append c.loop-index.nodes (c.numbered.result ∷ []), c.loop-index.invariant.1)),
)

pub returns : goal.returns
returns c = nodes_done c.loop-index.nodes c.args.numbers.now c.loop-index.index-index c.loop-index.from _ c.loop-index-test.false c.loop-index.invariant.0
