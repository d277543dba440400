use Rattle.std.proofs.Common.{◌≤◌, ℕ, List, inr, sym, ap, subst, ◌∙◌, arith}
use Rattle.std.specs.List.{AllByRecursion}
use Rattle.flat_tree.specs.Roots.{full_roots_of}
use Rattle.flat_tree.specs.declared.limits.TheConstants.{MAX_CORE_BYTES}
use Rattle.merkle_nodes.specs.declared.node.Node.{Node}
use Rattle.merkle_nodes.specs.Nodes.{AreNodes, bytes_under}
use Rattle.merkle_nodes.specs.Roots.{HasShape}
use Rattle.merkle_batch.specs.Batch.{BatchView}
use Rattle.node_set.specs.Contents.{roots}
use Rattle.node_set.proofs.SoundLemmas.{roots_shape}
use Rattle.log_core.specs.Refusals.{limit_in}
use Rattle.log_core.proofs.FitLemmas.{are_roots}
use Rattle.log_core.proofs.appending.batch_of.Goals as goal

pub start-requires : goal.start-requires
start-requires g c =
    let m = (g.V.View.view c.args.view.now).source.content in
    let at_length = subst (λ (n : ℕ). HasShape (roots m) n) (sym c.head.ensures.length) (roots_shape m.node m.length) in
    record {
      within = omega (arith, c.head.ensures.length, c.head.ensures.usable.blocks);
      shape = subst (λ (ns : List Node). HasShape ns c.head.result.length) (sym c.roots.ensures) at_length;
      sizes = subst (AllByRecursion (λ (node : Node). node.size ≤ MAX_CORE_BYTES)) (sym c.roots.ensures) c.head.ensures.usable.sizes;
    }

pub returns-in-Ok-push_all-clause-base : goal.returns-in-Ok-push_all-clause-base
returns-in-Ok-push_all-clause-base g c =
    c.push_all.ensures.base ∙ ap (λ (b : BatchView). b.base) c.start.ensures.empty ∙ c.head.ensures.length

pub returns-in-Ok-push_all-clause-has : goal.returns-in-Ok-push_all-clause-has
returns-in-Ok-push_all-clause-has g c = λ sound.
    let m = (g.V.View.view c.args.view.now).source.content in
    let at_length = subst (λ (n : ℕ). AreNodes m.node (full_roots_of n) (roots m)) (sym c.head.ensures.length) (are_roots m sound) in
    let are = subst (λ (ns : List Node). AreNodes m.node (full_roots_of c.head.result.length) ns) (sym c.roots.ensures) at_length in
    c.in-Ok-push_all.ensures.held m.node (c.start.ensures.held m.node are)

pub returns-in-Ok-push_all-clause-refused : goal.returns-in-Ok-push_all-clause-refused
returns-in-Ok-push_all-clause-refused g c =
    let blocks = c.args.blocks.now in
    sym (c.in-Ok-push_all.ensures.limit
    ∙ ap (λ (b : BatchView). limit_in b.base (bytes_under b.roots) 0 0 blocks) c.start.ensures.empty
    ∙ ap (λ (n : ℕ). limit_in n (bytes_under c.roots.result.now) 0 0 blocks) c.head.ensures.length
    ∙ ap (λ (ns : List Node). limit_in (g.V.View.view c.args.view.now).source.content.length (bytes_under ns) 0 0 blocks) c.roots.ensures)

pub returns-in-Err-push_all-clause-refused : goal.returns-in-Err-push_all-clause-refused
returns-in-Err-push_all-clause-refused g c =
    let blocks = c.args.blocks.now in
    inr (sym (c.in-Err-push_all.ensures.limit
    ∙ ap (λ (b : BatchView). limit_in b.base (bytes_under b.roots) 0 0 blocks) c.start.ensures.empty
    ∙ ap (λ (n : ℕ). limit_in n (bytes_under c.roots.result.now) 0 0 blocks) c.head.ensures.length
    ∙ ap (λ (ns : List Node). limit_in (g.V.View.view c.args.view.now).source.content.length (bytes_under ns) 0 0 blocks) c.roots.ensures))
