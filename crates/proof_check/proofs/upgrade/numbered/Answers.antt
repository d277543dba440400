use Rattle.std.proofs.Common.{◌+◌, length, ap, ◌∙◌}
use Rattle.std.proofs.lemmas.List.{length_push}
use Rattle.proof_check.specs.Growth.{nodes_at}
use Rattle.proof_check.proofs.Climbing.{nodes_at-next}
use Rattle.proof_check.proofs.upgrade.numbered.Goals as goal

pub loop-place-init : goal.loop-place-init
unfolding nodes_at
loop-place-init c = record { nodes = c.new-added.ensures; count = ap length c.new-added.ensures }

pub loop-place-preserved : goal.loop-place-preserved
loop-place-preserved c = record {
  nodes = nodes_at-next _ _ _ _ _ c.loop-place.place _ _ c.requires.count c.loop-place-test.true c.loop-place.invariant.nodes c.at.ensures c.numbered.ensures c.push.ensures;
  count = ap length c.push.ensures ∙ length_push _ _ ∙ ap (λ n. n + 1) c.loop-place.invariant.count;
}
