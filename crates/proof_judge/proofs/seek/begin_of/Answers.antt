use Rattle.std.proofs.Common.{ℕ, List, take, refl, ap, ◌∙◌, arith}
use Rattle.flat_tree.specs.Roots.{depth_over, place_over}
use Rattle.merkle_nodes.specs.declared.node.Node.{Node}
use Rattle.node_set.specs.Contents.{roots, bytes_under}
use Rattle.log_view.proofs.LeftSums.{left_all}
use Rattle.proof_check.specs.Meets.{seen}
use Rattle.proof_judge.proofs.Seeking.{block_below, begins_with}
use Rattle.proof_judge.proofs.seek.begin_of.Goals as goal

pub root_of_block-place-requires-clause-held : goal.root_of_block-place-requires-clause-held
root_of_block-place-requires-clause-held g c = omega (arith, block_below _ _ _ _ c.requires.way, c.head.ensures.length)

pub left_of_path-requires-clause-tree : goal.left_of_path-requires-clause-tree
left_of_path-requires-clause-tree g c =
    let few = c.head.ensures.usable.blocks in
    record {
      blocks = omega (arith, block_below _ _ _ _ c.requires.way, few);
      levels = c.root_of_block-place.ensures.few (omega (arith, few, c.head.ensures.length));
    }

pub returns-in-Ok-clause-begins : goal.returns-in-Ok-clause-begins
returns-in-Ok-clause-begins g c = λ p same shut.
    let s = (g.V.View.view c.args.view.now).source in
    let b = seen c.args.block.now in
    let place = c.root_of_block-place.ensures.place ∙ ap (λ (n : ℕ). place_over n b.index) c.head.ensures.length in
    let depth = c.root_of_block-place.ensures.depth ∙ ap (λ (n : ℕ). depth_over n b.index) c.head.ensures.length in
    let bytes = c.bytes_of_roots-before.ensures.sum ∙ ap (λ (ns : List Node). bytes_under (take c.root_of_block-place.result.0 ns)) (c.as_slice.ensures.items ∙ c.roots.ensures)
    ∙ ap (λ (k : ℕ). bytes_under (take k (roots s.content))) place in
    begins_with p s c.args.way.now b same c.requires.way shut _ _ _ bytes (left_all _ _ _ _ _ depth (c.in-Ok.ensures.left p same shut)) refl
