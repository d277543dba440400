use Rattle.std.proofs.Common.{sym, ap, arith}
use Rattle.merkle_nodes.specs.declared.node.Twig.{Twig}
use Rattle.merkle_nodes.specs.Roots.{twig_of}
use Rattle.node_set.proofs.RootTruth.{twig_at-some}
use Rattle.core_disk.specs.InHand.{opened_of}
use Rattle.core_disk.specs.Laid.{outline}
use Rattle.core_disk.proofs.replay.DiskState.bytes_of.Goals as goal

pub returns-in-Some-clause-size : goal.returns-in-Some-clause-size
returns-in-Some-clause-size c = λ depth offset is.
    let there = c.in-Some.ensures.value depth offset is in
    let size = ap (λ (twig : Twig). twig.size) (twig_at-some (outline (opened_of c.args.self.now)).node depth offset (twig_of c.in-Some.node) (sym there)) in
    omega (arith, c.min.ensures, size)
