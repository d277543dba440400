use Rattle.std.proofs.Common.{◌≤◌, sym, ap, ◌∙◌, arith}
use Rattle.bit_field.specs.Places.{has}
use Rattle.flat_tree.specs.declared.limits.TheConstants.{MAX_BLOCKS}
use Rattle.merkle_nodes.specs.declared.roots.Head.{Head}
use Rattle.core_disk.proofs.StoreLemmas.{closure_few}
use Rattle.core_disk.proofs.replay.DiskState.stores.Goals as goal

pub returns-clause-few : goal.returns-clause-few
returns-clause-few c = λ is.
    let few : c.head.result.length ≤ MAX_BLOCKS = omega (arith, ap (λ (head : Head). head.length) c.head.ensures.head, c.head.ensures.kept.blocks) in
    closure_few c.head.result.length (has c.self.inside.held) c.args.index few (λ depth offset at. sym (c.is_stored.ensures depth offset at) ∙ is)
