use Rattle.proof_check.specs.Admission.{Ascends}
use Rattle.proof_check.proofs.Parts.{HasPut}
use Rattle.std.proofs.Common.{◌+◌, ◌≤◌, length}
use Rattle.proof_check.proofs.fresh.put_new.Given as goal

abbrev pub invariant-loop-node : goal.invariant-loop-node
invariant-loop-node l = record {
  put : HasPut l.base l.node-index l.nodes l.fn.fresh l.fresh;
  order : Ascends l.fresh;
  few : length l.fresh ≤ length l.fn.fresh + l.node-index;
}
