use Rattle.std.proofs.Common.{◌<◌, ℕ, List, slice_get, sym, ap, ◌∙◌, arith, rules, ◌≡◌, ◌/◌, ◌^◌, Some, subst}
use Rattle.flat_tree.specs.Subtrees.{subtree}
use Rattle.flat_tree.specs.Roots.{full_roots_of, place_over, depth_over}
use Rattle.std.specs.Prelude.{Result}
use Rattle.merkle_nodes.specs.declared.node.Node.{Node}
use Rattle.merkle_nodes.specs.Roots.{twig_of}
use Rattle.node_set.specs.declared.fault.CoreFault.{CoreFault}
use Rattle.node_set.specs.Contents.{held, roots}
use Rattle.node_set.proofs.SoundLemmas.{roots_shape}
use Rattle.core_snap.specs.Reads.{Answer}
use Rattle.core_snap.specs.Causes.{ReadsKept}
use Rattle.core_snap.proofs.WayLemmas.{root_inside, root_number, root_is, root_stored, read_of_over, read_proves}
use Rattle.core_snap.proofs.read.read_held.Goals as goal

pub read_up-requires-clause-way : goal.read_up-requires-clause-way
read_up-requires-clause-way g c =
    let m = (g.V.View.view c.args.view.now).content in
    let end = c.head-length.ensures.length in
    let within : c.args.index < m.length = omega (arith, c.if-length-index.false, end) in
    let levels = c.root_of_block-place.ensures.depth ∙ ap (λ (n : ℕ). depth_over n c.args.index) end in
    record {
      is_held = search rules;
      fits = record {
        blocks = omega (arith, within, c.head-length.ensures.usable.blocks);
        levels = c.root_of_block-place.ensures.few (omega (arith, end, c.head-length.ensures.usable.blocks));
      };
      inside = root_inside m.length (held m) c.args.index _ within levels;
      few = c.head-length.ensures.usable.blocks;
      sound = λ stands. (c.head-length.ensures.sound stands).0;
    }

pub read_up-requires-clause-root : goal.read_up-requires-clause-root
read_up-requires-clause-root g c =
    let m = (g.V.View.view c.args.view.now).content in
    let end = c.head-length.ensures.length in
    let within : c.args.index < m.length = omega (arith, c.if-length-index.false, end) in
    let levels = c.root_of_block-place.ensures.depth ∙ ap (λ (n : ℕ). depth_over n c.args.index) end in
    let at = ap (λ (nodes : List Node). slice_get nodes c.root_of_block-place.result.0) (sym c.roots.ensures) ∙ c.at-root.ensures in
    let over = subst (λ (n : ℕ). slice_get (full_roots_of n) c.root_of_block-place.result.0 ≡ Some (subtree c.root_of_block-place.result.1 (c.args.index / 2 ^ c.root_of_block-place.result.1)))
    end c.root_of_block-place.ensures.root in
    record {
      numbered = root_number _ _ _ _ _ _ (roots_shape m.node m.length) at over;
      stored = λ stands. root_stored m _ _ c.args.index _ (c.head-length.ensures.sound stands).0 within levels at over;
      shown = λ shows. sym (ap twig_of (root_is m _ _ _ _ at over));
    }

pub returns-clause-kept : goal.returns-clause-kept
returns-clause-kept g c =
    let v = g.V.View.view c.args.view.now in
    let m = v.content in
    let end = c.head-length.ensures.length in
    let within : c.args.index < m.length = omega (arith, c.if-length-index.false, end) in
    let levels = c.root_of_block-place.ensures.depth ∙ ap (λ (n : ℕ). depth_over n c.args.index) end in
    let at = ap (λ (nodes : List Node). slice_get nodes c.root_of_block-place.result.0) (sym c.roots.ensures) ∙ c.at-root.ensures in
    let over = subst (λ (n : ℕ). slice_get (full_roots_of n) c.root_of_block-place.result.0 ≡ Some (subtree c.root_of_block-place.result.1 (c.args.index / 2 ^ c.root_of_block-place.result.1)))
    end c.root_of_block-place.ensures.root in
    λ shows. subst (λ (answer : Result Answer CoreFault). ReadsKept v (g.V.View.view c.read_up.new.view) c.read_up.new.out answer c.read_up.result)
    (read_of_over m _ _ c.args.index _ within levels at over) (c.read_up.ensures.kept shows)

pub returns-clause-proved : goal.returns-clause-proved
returns-clause-proved g c =
    let m = (g.V.View.view c.args.view.now).content in
    let end = c.head-length.ensures.length in
    let within : c.args.index < m.length = omega (arith, c.if-length-index.false, end) in
    let levels = c.root_of_block-place.ensures.depth ∙ ap (λ (n : ℕ). depth_over n c.args.index) end in
    let place = c.root_of_block-place.ensures.place ∙ ap (λ (n : ℕ). place_over n c.args.index) end in
    let at = ap (λ (nodes : List Node). slice_get nodes c.root_of_block-place.result.0) (sym c.roots.ensures) ∙ c.at-root.ensures in
    let over = ap (λ (k : ℕ). slice_get (roots m) k) (sym place) ∙ at in
    read_proves m.length (roots m) c.args.index _ _ _ _ within (roots_shape m.node m.length) levels over c.read_up.ensures.path c.read_up.ensures.folds
