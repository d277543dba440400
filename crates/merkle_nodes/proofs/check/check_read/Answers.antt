use Rattle.std.proofs.Common.{arith, refl, sym, ap, ◌∙◌}
use Rattle.merkle_nodes.specs.View.{view}
use Rattle.merkle_nodes.specs.Roots.{twig_of}
use Rattle.merkle_nodes.proofs.Bundles.{block_within, block_found}
use Rattle.merkle_nodes.proofs.check.check_read.Goals as goal

pub overflow_sub-result : goal.overflow_sub-result
overflow_sub-result g c = block_within (view c.args.bundle.now) c.args.bytes.now c.requires

pub returns : goal.returns
returns g c =
    let b = view c.args.bundle.now in
    let fits = c.requires.0 in
    let same = c.is_same.ensures.0 c.if-not-is_same.false in (
      b,
      c.requires,
      record {
        within = fits.start.index;
        shape = fits.shape;
        path = fits.path;
        root = c.root_over-want.result;
        over = c.root_over-want.ensures;
        folds = ap twig_of (sym c.fold_path-have.ensures) ∙ same;
      },
      c.is_accepted.ensures.0 c.if-not-is_accepted.false,
      record {
        fork = refl;
        blocks = refl;
        index = refl;
        end = refl;
        start = omega (arith, block_within b c.args.bytes.now c.requires);
        block = block_found b c.args.bytes.now c.requires;
      },
    )
