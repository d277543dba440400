use Rattle.std.proofs.Common.{◌≡◌, ◌+◌, ◌*◌, ◌/◌, ◌≤◌, ℕ, [], IsTrue, rules, sym, subst, ◌∙◌, arith, length, get_or}
use Rattle.flat_tree.specs.Subtrees.{number, end_block_of}
use Rattle.merkle_nodes.specs.declared.node.Node.{Node}
use Rattle.merkle_nodes.specs.Roots.{twig_of}
use Rattle.node_set.specs.Same.{is_stored_as}
use Rattle.node_set.specs.Whole.{IsSound}
use Rattle.node_set.proofs.TableRoots.{root_tree}
use Rattle.log_view.specs.Views.{Source}
use Rattle.log_change.proofs.KeptRoots.{HasKept, IsGiven, Stores, gives_below, kept_start, small, numbered, kept_more, kept_here, kept_all}
use Rattle.log_change.proofs.reorganisation.kept_under.Goals as goal

abbrev blank : Node
blank = record { index = 0; size = 0; hash = [] }

pub loop-root-init : goal.loop-root-init
loop-root-init g c = record { keeps = search rules; kept = kept_start (g.V.View.view c.args.view.now).source c.args.length c.args.roots.now }

pub spans-requires : goal.spans-requires
spans-requires g c =
    let s = (g.V.View.view c.args.view.now).source in
    record { within = omega (arith, small s c.args.length c.args.roots.now c.loop-root.root-index blank c.requires.shape c.loop-root-test.true, c.requires.within) }

pub returns-in-Ok-false-clause-kept : goal.returns-in-Ok-false-clause-kept
returns-in-Ok-false-clause-kept g c = λ shows sound.
    let s = (g.V.View.view c.args.view.now).source in
    let at = c.loop-root.root-index in
    let tree = root_tree c.args.length at in
    let number_is = numbered s c.args.length c.args.roots.now at blank c.requires.shape c.loop-root-test.true in
    let stored = subst (Stores c.args.roots.now at blank c.in-Ok-false.field-0) c.loop-root.invariant.keeps.source c.in-Ok-false.ensures.stored in
    kept_here s c.args.length c.args.roots.now at blank c.requires.shape c.loop-root-test.true c.loop-root.kept c.loop-root.invariant.kept shows sound
    (sym (stored shows sound tree.depth tree.offset number_is) ∙ c.in-Ok-false.field-0-test)

pub loop-root-preserved : goal.loop-root-preserved
loop-root-preserved g c =
    let s = (g.V.View.view c.args.view.now).source in
    let at = c.loop-root.root-index in
    let tree = root_tree c.args.length at in
    let number_is = numbered s c.args.length c.args.roots.now at blank c.requires.shape c.loop-root-test.true in
    let stored = subst (Stores c.args.roots.now at blank c.in-Ok-true.field-0) c.loop-root.invariant.keeps.source c.in-Ok-true.ensures.stored in
    let before = subst (λ (v : Source). end_block_of tree.depth tree.offset ≤ v.content.length) c.loop-root.invariant.keeps.source
    (c.in-Ok-true.ensures.within tree.depth tree.offset number_is c.in-Ok-true.field-0-test) in
    let gives = subst (λ (v : Source). IsGiven v (get_or c.args.roots.now at blank)) c.loop-root.invariant.keeps.source (c.in-Ok-true.ensures.given c.in-Ok-true.field-0-test) in
    let end : end_block_of tree.depth tree.offset ≡ c.spans.result.1 / 2 + 1 = omega (arith, c.spans.ensures.last tree.depth tree.offset (sym number_is)) in
    record {
      keeps = search rules;
      kept = subst (HasKept s c.args.length c.args.roots.now (at + 1)) end
          (kept_more s c.args.length c.args.roots.now at blank c.requires.shape c.loop-root-test.true c.loop-root.kept c.loop-root.invariant.kept before gives
          (λ shows sound. sym (stored shows sound tree.depth tree.offset number_is) ∙ c.in-Ok-true.field-0-test));
    }

pub returns-clause-kept : goal.returns-clause-kept
returns-clause-kept g c = λ shows sound.
    kept_all (g.V.View.view c.args.view.now).source c.args.length c.loop-root.root-index c.loop-root.kept c.args.roots.now c.requires.shape
    (omega (arith, c.loop-root-test.false)) c.loop-root.invariant.kept shows sound

pub returns-in-Ok-false-clause-given : goal.returns-in-Ok-false-clause-given
returns-in-Ok-false-clause-given g c =
    gives_below (g.V.View.view c.args.view.now).source c.args.length c.loop-root.root-index c.loop-root.kept c.args.roots.now c.requires.shape c.loop-root.invariant.kept

pub returns-clause-given : goal.returns-clause-given
returns-clause-given g c =
    gives_below (g.V.View.view c.args.view.now).source c.args.length c.loop-root.root-index c.loop-root.kept c.args.roots.now c.requires.shape c.loop-root.invariant.kept
