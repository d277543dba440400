use Rattle.std.proofs.Common.{◌≤◌, ◌/◌, ◌^◌, subst, sym, arith, rules}
use Rattle.flat_tree.specs.Subtrees.{end_block_of}
use Rattle.flat_tree.specs.declared.limits.TheConstants.{MAX_BLOCKS}
use Rattle.log_view.specs.Views.{Source}
use Rattle.core_snap.proofs.WayLemmas.{root_number}
use Rattle.snap_reads.proofs.read.read_snap.Goals as goal

pub has_root-requires : goal.has_root-requires
has_root-requires g c = record {
  number = root_number _ _ _ _ _ _ c.requires.shape c.at-root.ensures c.root_of_block-place.ensures.root;
}

pub read_up-requires-clause-path : goal.read_up-requires-clause-path
read_up-requires-clause-path g c =
    let same = sym c.in-Ok-true.ensures.looks.keeps.source in
    let levels = c.root_of_block-place.result.1 in
    record {
      is_held = search rules;
      fits = record {
        blocks = omega (arith, c.if-snap-index.false, c.requires.few);
        levels = c.root_of_block-place.ensures.few c.requires.few;
      };
      inside = subst (λ (s : Source). end_block_of levels (c.args.index / 2 ^ levels) ≤ s.content.length) same (c.in-Ok-true.ensures.within (search rules));
      few = subst (λ (s : Source). s.content.length ≤ MAX_BLOCKS) same c.head.ensures.usable.blocks;
    }
