use Rattle.std.proofs.Common.{inl, inr}
use Rattle.core_disk.proofs.AdmitPlan.{admit_answers, admit_entered_by, admit_told}
use Rattle.core_disk.proofs.admitting.plan_admit.Goals as goal

pub returns-in-Ok-clause-plan : goal.returns-in-Ok-clause-plan
returns-in-Ok-clause-plan g c =
    let answers = c.with_place.ensures in
    admit_answers (g.A.Verifier.accepts c.args.verifier.now) c.args.prepared.now (g.V.View.view c.args.view.now) (g.V.View.view c.judged.new.view)
    (g.V.View.view c.with_place.new.view) c.in-Ok.change c.in-Ok.ensures answers.keeps c.with_place.result c.head-head.ensures.usable answers.same
    answers.records
    answers.place answers.err

pub returns-in-Ok-clause-told : goal.returns-in-Ok-clause-told
returns-in-Ok-clause-told g c =
    let answers = c.with_place.ensures in
    admit_told (g.A.Verifier.accepts c.args.verifier.now) c.args.prepared.now (g.V.View.view c.args.view.now) (g.V.View.view c.judged.new.view)
    (g.V.View.view c.with_place.new.view) c.in-Ok.change c.in-Ok.ensures answers.keeps c.with_place.result answers.err

pub returns-in-Err-clause-told : goal.returns-in-Err-clause-told
returns-in-Err-clause-told g c = elim c.in-Err.ensures.told [ inl refusal ↦ inl refusal | inr tells ↦ inr (inl tells) ]

pub returns-in-Ok-clause-entered : goal.returns-in-Ok-clause-entered
returns-in-Ok-clause-entered g c =
    let answers = c.with_place.ensures in
    admit_entered_by (g.A.Verifier.accepts c.args.verifier.now) c.args.prepared.now (g.V.View.view c.args.view.now) (g.V.View.view c.judged.new.view)
    (g.V.View.view c.with_place.new.view) c.in-Ok.change c.in-Ok.ensures answers.keeps c.with_place.result c.head-head.ensures.usable answers.same
    answers.records
