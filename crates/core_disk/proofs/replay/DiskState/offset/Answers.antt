use Rattle.std.proofs.Common.{◌≡◌, ◌≤◌, ℕ, List, [], take, refl, sym, ap, subst, ◌∙◌, arith}
use Rattle.std.specs.List.{AllByRecursion}
use Rattle.flat_tree.specs.Roots.{place_over, depth_over}
use Rattle.flat_tree.specs.declared.limits.TheConstants.{MAX_CORE_BYTES}
use Rattle.merkle_nodes.specs.declared.node.Node.{Node}
use Rattle.merkle_nodes.specs.declared.roots.Head.{Head}
use Rattle.node_set.specs.Contents.{bytes_under, roots}
use Rattle.node_set.specs.Offsets.{left_bytes, roots_left}
use Rattle.node_set.proofs.OffsetSums.{roots_most}
use Rattle.core_disk.specs.InHand.{InHand, opened_of}
use Rattle.core_disk.specs.Laid.{outline}
use Rattle.core_disk.proofs.LaidLemmas.{roots_in}
use Rattle.core_disk.proofs.replay.DiskState.offset.Goals as goal

pub sum_of_sizes-before-requires : goal.sum_of_sizes-before-requires
sum_of_sizes-before-requires c =
    let sizes = subst (AllByRecursion (λ (node : Node). node.size ≤ MAX_CORE_BYTES)) (sym c.as_slice.ensures.items) c.self.invariant.sizes in
    roots_most c.as_slice.result.now c.root_of_block-place.result.0 sizes c.as_slice.ensures.room

pub overflow_add-result : goal.overflow_add-result
overflow_add-result c =
    let sizes = subst (AllByRecursion (λ (node : Node). node.size ≤ MAX_CORE_BYTES)) (sym c.as_slice.ensures.items) c.self.invariant.sizes in
    let before = roots_most c.as_slice.result.now c.root_of_block-place.result.0 sizes c.as_slice.ensures.room in
    let head = ap (λ (head : Head). head.length) c.head.ensures.head in
    let few = c.root_of_block-place.ensures.few (omega (arith, head, c.head.ensures.kept.blocks)) in
    omega (arith, c.sum_of_sizes-before.ensures, before, c.left_of_path.ensures.most, few)

pub returns : goal.returns
returns c = λ fit.
    let o = opened_of c.args.self.now in
    let head = ap (λ (head : Head). head.length) c.head.ensures.head in
    let items : c.as_slice.result.now ≡ roots (outline o) =
    c.as_slice.ensures.items ∙ ap (λ (hand : InHand). hand.roots) c.self.view_is ∙ sym (roots_in [] o c.requires.rooted) in
    let place = c.root_of_block-place.ensures.place ∙ ap (λ (n : ℕ). place_over n c.args.index) head in
    let levels = c.root_of_block-place.ensures.depth ∙ ap (λ (n : ℕ). depth_over n c.args.index) head in
    let before : c.sum_of_sizes-before.result ≡ roots_left (outline o) c.args.index =
    c.sum_of_sizes-before.ensures
    ∙ ap (λ (nodes : List Node). bytes_under (take c.root_of_block-place.result.0 nodes)) items
    ∙ ap (λ (n : ℕ). bytes_under (take n (roots (outline o)))) place in
    let left = c.left_of_path.ensures.bytes fit ∙ ap (λ (n : ℕ). left_bytes n (outline o).node 0 c.args.index) levels in
    rw (before, left) refl
