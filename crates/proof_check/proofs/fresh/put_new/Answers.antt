use Rattle.std.proofs.Common.{arith}
use Rattle.std.proofs.lemmas.Option.{slice_get_within, slice_get-get_or}
use Rattle.proof_check.proofs.Parts.{put_next}
use Rattle.proof_check.proofs.fresh.put_new.Goals as goal

pub loop-node-preserved : goal.loop-node-preserved
loop-node-preserved c = record {
  put = put_next _ c.loop-node.node-index _ _ _ _ _ (slice_get-get_or c.args.nodes.now c.loop-node.node-index _ c.loop-node-test.true) c.put_behind.ensures.behind c.put_behind.ensures.before c.loop-node.invariant.put;
  order = c.put_behind.ensures.order;
  few = omega (arith, c.put_behind.ensures.few, c.loop-node.invariant.few);
}

pub returns-clause-all : goal.returns-clause-all
returns-clause-all c = λ place d o node there index behind.
    c.loop-node.invariant.put.all place d o node (omega (arith, slice_get_within _ place node there, c.loop-node-test.false)) there index behind
