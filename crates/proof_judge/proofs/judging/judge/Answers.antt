use Rattle.std.proofs.Common.{inl, inr, ap, sym, ◌∙◌}
use Rattle.proof_form.specs.Proofs.{view}
use Rattle.proof_check.specs.Admission.{refused}
use Rattle.proof_judge.proofs.Admitted.{numbers_refuse}
use Rattle.proof_judge.proofs.judging.judge.Goals as goal

pub returns-in-Some-clause-refused : goal.returns-in-Some-clause-refused
returns-in-Some-clause-refused g c = λ shows sound.
    let m = (g.V.View.view c.args.view.now).source.content in
    let p = view c.args.proof.now in
    let numbers = c.refused_by_numbers-refusal.ensures m (sym c.head.ensures.fork) (sym c.head.ensures.length) (sym (c.as_slice.ensures.items ∙ c.roots.ensures)) in
    inr (inl (ap refused (numbers_refuse (g.A.Verifier.accepts c.args.verifier.now) p m c.in-Some.refusal sound c.requires.fits (sym numbers ∙ c.in-Some.is))))
