use Rattle.std.proofs.Common.{◌≡◌, ℕ, List, Some, slice_get, refl, sym, ap, subst, ◌∙◌, arith}
use Rattle.flat_tree.specs.Roots.{full_roots_of}
use Rattle.merkle_nodes.specs.Nodes.{AreNodes}
use Rattle.node_set.specs.Contents.{held, roots}
use Rattle.node_set.proofs.PathLemmas.{first_is_root}
use Rattle.proof_check.specs.Meets.{NoneBelow, FoundBelow}
use Rattle.proof_check.proofs.Meeting.{root_value}
use Rattle.proof_check.proofs.UpgradeValues.{nodes_of_roots}
use Rattle.proof_check.proofs.fetching.first_met.Goals as goal

pub returns-in-Ok-None-clause-stored : goal.returns-in-Ok-None-clause-stored
returns-in-Ok-None-clause-stored g c =
    let m = (g.V.View.view c.args.view.now).content in
    let top = c.root_of_block-place.result.1 in
    let found = subst (FoundBelow m.length (held m) c.args.index top) c.in-Ok-None.field-0-is c.in-Ok-None.ensures.found in
    let none = subst (λ (n : ℕ). NoneBelow n (held m) c.args.index top) (sym c.requires.length) found in
    first_is_root c.args.length (held m) c.args.index top top c.requires.within c.root_of_block-place.ensures.depth (omega arith) none

pub returns-in-Ok-None-clause-value : goal.returns-in-Ok-None-clause-value
returns-in-Ok-None-clause-value g c = λ stands sound.
    let m = (g.V.View.view c.args.view.now).content in
    let are = subst (λ (n : ℕ). AreNodes m.node (full_roots_of n) (roots m)) (sym c.requires.length) (nodes_of_roots m m.node (λ d o root. refl) sound) in
    root_value c.args.length c.root_of_block-place.result.0 c.root_of_block-place.result.1 _ m.node (roots m) c.at-node.result are
    (subst (λ rs. slice_get rs c.root_of_block-place.result.0 ≡ Some c.at-node.result) (c.roots.ensures ∙ ap roots c.in-Ok-None.ensures.keeps.content) c.at-node.ensures) c.root_of_block-place.ensures.root
