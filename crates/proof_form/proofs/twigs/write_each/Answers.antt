use Rattle.std.proofs.Common.{Err, sym, subst}
use Rattle.compact_enc.specs.Written.{Writes}
use Rattle.compact_enc.proofs.Writing.{writes_stop, writes_then}
use Rattle.proof_form.specs.Twigs.{twig_spelling}
use Rattle.proof_form.proofs.TwigLoop.{flat_map-split}
use Rattle.proof_form.proofs.twigs.write_each.Goals as goal

pub returns-in-Err : goal.returns-in-Err
returns-in-Err c =
    subst (λ text. Writes {A = Unit {0}} text c.args.to.now c.write_twig.new.to (Err c.in-Err.full)) (sym (flat_map-split twig_spelling c.args.twigs.now c.loop-twig.twig-index _ c.loop-twig-test.true))
    (writes_then _ _ _ _ _ _ _ c.loop-twig.invariant (writes_stop _ _ _ _ _ c.in-Err.ensures))
