use Rattle.std.proofs.Common.{rules, List, length, ap, subst, arith}
use Rattle.std.proofs.lemmas.List.Sorted.{IsNonDecreasingBy-from_sort_by_key}
use Rattle.flat_tree.specs.Roots.{full_roots_of}
use Rattle.flat_tree.specs.Covers.{cover_of}
use Rattle.flat_tree.specs.declared.limits.TheConstants.{MAX_ROOTS}
use Rattle.flat_tree.proofs.RootLemmas.{length-full}
use Rattle.merkle_nodes.specs.declared.node.Twig.{Twig}
use Rattle.merkle_nodes.specs.Joined.{Values, joined, with_parts}
use Rattle.merkle_nodes.specs.Nodes.{AreNodes}
use Rattle.log_change.proofs.InOrder.{all_moved}
use Rattle.log_change.proofs.Named.{number_of, numbers_are}
use Rattle.root_stack.specs.Made.{made_by}
use Rattle.root_stack.specs.Stack.{SizeFits}
use Rattle.root_stack.proofs.NodeLists.{many_roots}
use Rattle.proof_judge.proofs.LaidNodes.{laid_nodes}
use Rattle.proof_judge.proofs.upgrade.push_in_order.Goals as goal

pub push_cover-requires-clause-shape : goal.push_cover-requires-clause-shape
push_cover-requires-clause-shape c =
    let some = c.requires.of in numbers_are some.0 (full_roots_of c.args.upgrade.now.start) c.args.roots.now some.1

pub push_cover-requires-clause-room : goal.push_cover-requires-clause-room
push_cover-requires-clause-room c =
    let some = c.requires.of in
    let start = c.args.upgrade.now.start in
    let many = many_roots start c.args.roots.now (numbers_are some.0 (full_roots_of start) c.args.roots.now some.1) in
    let few = length-full MAX_ROOTS start (omega arith) (omega (arith, c.requires.blocks, c.requires.fits.ordered)) in
    omega (arith, c.requires.room, ap length c.requires.empty, many, few, ap length c.as_slice.ensures.items, c.requires.fits.nodes.few)

pub returns-clause-nodes : goal.returns-clause-nodes
returns-clause-nodes c =
    let u = c.args.upgrade.now in
    let made = c.push_cover.new.made.items in
    let joins = λ (known : Values) (are : AreNodes known (full_roots_of u.start) c.args.roots.now).
    subst (λ (twigs : List Twig). AreNodes (joined (with_parts u.start known (cover_of u.start u.length) twigs)) (made_by (cover_of u.start u.length)) made)
    c.as_slice.ensures.items (c.push_cover.ensures.joined known are c.requires.empty).at_made in
    laid_nodes u c.args.roots.now made c.sort_unstable_by_key.new.self.items (omega (arith, c.requires.fits.ordered)) c.requires.blocks c.requires.of
    joins c.sort_unstable_by_key.ensures.permutation
    (IsNonDecreasingBy-from_sort_by_key number_of _ c.sort_unstable_by_key.ensures.sorted (λ a r q k. search rules))

pub returns-clause-nodes_fit : goal.returns-clause-nodes_fit
returns-clause-nodes_fit c =
    all_moved SizeFits c.push_cover.new.made.items c.sort_unstable_by_key.new.self.items c.sort_unstable_by_key.ensures.permutation
    (c.push_cover.ensures.grows.made_fit (rw c.requires.empty tt))

pub returns-clause-few : goal.returns-clause-few
returns-clause-few c =
    let some = c.requires.of in
    let start = c.args.upgrade.now.start in
    let many = many_roots start c.args.roots.now (numbers_are some.0 (full_roots_of start) c.args.roots.now some.1) in
    let few = length-full MAX_ROOTS start (omega arith) (omega (arith, c.requires.blocks, c.requires.fits.ordered)) in
    omega (
      arith,
      c.sort_unstable_by_key.ensures.len,
      c.push_cover.ensures.grows.many,
      ap length c.requires.empty,
      many,
      few,
      ap length c.as_slice.ensures.items,
      c.requires.fits.nodes.few,
    )
