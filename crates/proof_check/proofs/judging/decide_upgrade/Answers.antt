use Rattle.std.proofs.Common.{inl, Some, ap}
use Rattle.node_set.specs.declared.fault.Refusal.{Refusal}
use Rattle.node_set.specs.declared.fault.CoreFault.TheVariants.{Refused}
use Rattle.proof_form.specs.Proofs.{view}
use Rattle.proof_check.specs.Admission.{refused}
use Rattle.proof_check.specs.Reaching.{IsGround}
use Rattle.proof_check.proofs.judging.decide_upgrade.Goals as goal

pub settle-requires-clause-ground : goal.settle-requires-clause-ground
settle-requires-clause-ground g c = ((g.V.View.view c.args.view.now).content, record { is_open = c.requires.is_open; reaches = c.in-Ok.ensures.reach })

pub returns-in-Ok-settle-clause-answers : goal.returns-in-Ok-settle-clause-answers
returns-in-Ok-settle-clause-answers g c = λ stands sound.
    let m = (g.V.View.view c.args.view.now).content in
    let settles = c.in-Ok-settle.ensures.settles m (record { is_open = c.requires.is_open; reaches = c.in-Ok.ensures.reach }) sound (c.in-Ok.ensures.values stands sound) in
    (ap refused settles.0, settles.1)

pub returns-in-Ok-settle-clause-legal : goal.returns-in-Ok-settle-clause-legal
returns-in-Ok-settle-clause-legal g c =
    c.in-Ok-settle.ensures.legal (g.V.View.view c.args.view.now).content (record { is_open = c.requires.is_open; reaches = c.in-Ok.ensures.reach })

pub returns-in-Err-settle-clause-answers : goal.returns-in-Err-settle-clause-answers
returns-in-Err-settle-clause-answers g c = λ stands sound.
    let m = (g.V.View.view c.args.view.now).content in
    let settles = c.in-Err-settle.ensures.settles m (record { is_open = c.requires.is_open; reaches = c.in-Ok.ensures.reach }) sound (c.in-Ok.ensures.values stands sound) in
    inl (ap refused settles)
