use Rattle.std.proofs.Common.{◌<◌, ℕ, List, slice_get, sym, ap, ◌∙◌, arith, rules}
use Rattle.flat_tree.specs.Roots.{place_over, depth_over}
use Rattle.merkle_nodes.specs.declared.node.Node.{Node}
use Rattle.node_set.specs.Contents.{held, roots}
use Rattle.node_set.proofs.SoundLemmas.{roots_shape}
use Rattle.core_snap.proofs.WayLemmas.{root_inside, read_proves}
use Rattle.snap_reads.proofs.read.read_held.Goals as goal

pub read_up-requires-clause-path : goal.read_up-requires-clause-path
read_up-requires-clause-path g c =
    let m = (g.V.View.view c.args.view.now).source.content in
    let end = c.head-length.ensures.length in
    let within : c.args.index < m.length = omega (arith, c.if-length-index.false, end) in
    let levels = c.root_of_block-place.ensures.depth ∙ ap (λ (n : ℕ). depth_over n c.args.index) end in
    record {
      is_held = search rules;
      fits = record {
        blocks = omega (arith, within, c.head-length.ensures.usable.blocks);
        levels = c.root_of_block-place.ensures.few (omega (arith, end, c.head-length.ensures.usable.blocks));
      };
      inside = root_inside m.length (held m) c.args.index _ within levels;
      few = c.head-length.ensures.usable.blocks;
    }

pub returns-clause-proved : goal.returns-clause-proved
returns-clause-proved g c =
    let m = (g.V.View.view c.args.view.now).source.content in
    let end = c.head-length.ensures.length in
    let within : c.args.index < m.length = omega (arith, c.if-length-index.false, end) in
    let levels = c.root_of_block-place.ensures.depth ∙ ap (λ (n : ℕ). depth_over n c.args.index) end in
    let place = c.root_of_block-place.ensures.place ∙ ap (λ (n : ℕ). place_over n c.args.index) end in
    let at = ap (λ (nodes : List Node). slice_get nodes c.root_of_block-place.result.0) (sym c.roots.ensures) ∙ c.at-root.ensures in
    let over = ap (λ (k : ℕ). slice_get (roots m) k) (sym place) ∙ at in
    read_proves m.length (roots m) c.args.index _ _ _ _ within (roots_shape m.node m.length) levels over c.read_up.ensures.path c.read_up.ensures.folds
