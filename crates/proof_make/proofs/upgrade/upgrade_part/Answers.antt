use Rattle.std.proofs.Common.{◌≡◌, Bool, Some, sym, ap, ◌⊎◌}
use Rattle.std.specs.Prelude.{Option, not, is_some}
use Rattle.proof_form.specs.declared.proof.UpgradePart.{UpgradePart}
use Rattle.node_set.specs.declared.fault.CoreFault.TheVariants.{NoReply}
use Rattle.node_set.specs.Refuses.{refuse_if}
use Rattle.node_set.specs.Views.{TellsFault}
use Rattle.proof_make.proofs.Upgrades.{upgrade_given, upgrade_refused}
use Rattle.proof_make.proofs.upgrade.upgrade_part.Goals as goal

pub returns-in-Ok-clause-made : goal.returns-in-Ok-clause-made
returns-in-Ok-clause-made g c = λ stands.
    let given = upgrade_given (g.V.View.view c.args.view.now).content (c.head.ensures.sound stands).0 c.args.reach.now c.in-Some.reach _ _ _
    c.in-Some.is c.requires.ends c.in-Ok.ensures.answers.0 (c.in-Ok.ensures.twigs stands) c.head.ensures.signature in
    (ap (λ (found : Option (Option UpgradePart)). refuse_if (not (is_some found)) NoReply) (sym given), given)

pub returns-in-Err-clause-made : goal.returns-in-Err-clause-made
returns-in-Err-clause-made g c = λ stands.
    let view = g.V.View.view in
    upgrade_refused (view c.args.view.now).content (c.head.ensures.sound stands).0 c.args.reach.now c.in-Some.reach c.in-Some.is c.requires.ends
    (λ (test : Bool). (refuse_if (not test) NoReply ≡ Some c.in-Err.fault) ⊎ TellsFault (view c.args.view.now) (view c.twigs_of.new.view) c.in-Err.fault)
    c.in-Err.ensures.answers
