use Rattle.std.proofs.lemmas.Result.{IfOk-weaker}
use Rattle.std.proofs.Common.{inl, refl}
use Rattle.log_view.proofs.Spots.{answer_shown, none_shown}
use Rattle.log_view.proofs.seeking.seek.Goals as goal

pub returns-in-Some-clause-shown : goal.returns-in-Some-clause-shown
returns-in-Some-clause-shown g c = λ shows sound.
    let s = (g.V.View.view c.args.view.now).source in
    let leads = c.in-Some.ensures.leads in
    IfOk-weaker c.descend.result _ _ (λ found is. is.0)
    (answer_shown s shows sound c.args.byte c.descend.result (c.descend.ensures.found c.args.byte 0 leads) (c.descend.ensures.none c.args.byte 0 leads))

pub returns-in-Some-clause-begins : goal.returns-in-Some-clause-begins
returns-in-Some-clause-begins g c = λ shows sound.
    let s = (g.V.View.view c.args.view.now).source in
    let leads = c.in-Some.ensures.leads in
    IfOk-weaker c.descend.result _ _ (λ found is. is.1)
    (answer_shown s shows sound c.args.byte c.descend.result (c.descend.ensures.found c.args.byte 0 leads) (c.descend.ensures.none c.args.byte 0 leads))

pub returns-in-None-clause-shown : goal.returns-in-None-clause-shown
returns-in-None-clause-shown g c = λ shows sound. none_shown (g.V.View.view c.args.view.now).source shows sound c.args.byte (inl (c.in-None.ensures.none refl))
