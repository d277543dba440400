use Rattle.std.proofs.Common.{◌≤◌, ◌/◌, ◌^◌, IsTrue, subst, sym, ap, ◌∙◌, arith, rules}
use Rattle.flat_tree.specs.Subtrees.{end_block_of}
use Rattle.flat_tree.specs.declared.limits.TheConstants.{MAX_BLOCKS}
use Rattle.node_set.specs.Whole.{IsSound}
use Rattle.node_set.specs.Contents.{Content, twig_at}
use Rattle.core_snap.proofs.WayLemmas.{root_number, stored_is}
use Rattle.core_snap.proofs.read.read_snap.Goals as goal

pub has_root-requires : goal.has_root-requires
has_root-requires g c = record {
  number = root_number _ _ _ _ _ _ c.requires.shape c.at-root.ensures c.root_of_block-place.ensures.root;
}

pub read_up-requires-clause-way : goal.read_up-requires-clause-way
read_up-requires-clause-way g c =
    let keeps = c.in-Ok-true.ensures.keeps.keeps in
    let same = sym keeps.content in
    record {
      is_held = search rules;
      fits = record {
        blocks = omega (arith, c.if-snap-index.false, c.requires.few);
        levels = c.root_of_block-place.ensures.few c.requires.few;
      };
      inside = subst (λ (m : Content). end_block_of c.root_of_block-place.result.1 (c.args.index / 2 ^ c.root_of_block-place.result.1) ≤ m.length) same (c.in-Ok-true.ensures.within (search rules));
      few = subst (λ (m : Content). m.length ≤ MAX_BLOCKS) same c.head.ensures.usable.blocks;
      sound = λ stands. subst IsSound same (c.head.ensures.sound (subst IsTrue keeps.stands stands)).0;
    }

pub read_up-requires-clause-root : goal.read_up-requires-clause-root
read_up-requires-clause-root g c =
    let keeps = c.in-Ok-true.ensures.keeps.keeps in
    let levels = c.root_of_block-place.result.1 in
    record {
      numbered = root_number _ _ _ _ _ _ c.requires.shape c.at-root.ensures c.root_of_block-place.ensures.root;
      stored = λ stands.
          let is = sym (c.in-Ok-true.ensures.stored (subst IsTrue keeps.stands stands)) ∙ c.in-Ok-true.field-0-test in
          ap (λ (m : Content). m.node levels (c.args.index / 2 ^ levels)) keeps.content ∙ stored_is _ _ is;
      shown = λ shows.
          ap (λ (m : Content). twig_at m.node levels (c.args.index / 2 ^ levels)) keeps.content
          ∙ c.in-Ok-true.ensures.shown (subst IsTrue keeps.shows shows) (search rules);
    }
