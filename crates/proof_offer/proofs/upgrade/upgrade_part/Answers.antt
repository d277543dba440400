use Rattle.std.proofs.Common.{◌≡◌, ℕ, List, length, ◌≤◌, true, refl, subst, arith, lit<}
use Rattle.std.specs.Prelude.{Option}
use Rattle.proof_form.specs.declared.request.Reach.{Reach}
use Rattle.proof_form.specs.declared.proof.UpgradePart.{UpgradePart}
use Rattle.proof_make.specs.Offers.{passes}
use Rattle.proof_offer.specs.Parts.{GivesTwigs, GivesUpgradePart}
use Rattle.proof_offer.specs.Replies.{has_upgrade}
use Rattle.proof_offer.proofs.Stored.{cover_stored}
use Rattle.proof_offer.proofs.Gives.{answers-some}
use Rattle.proof_offer.proofs.upgrade.upgrade_part.Goals as goal

pub twigs_of-requires : goal.twigs_of-requires
twigs_of-requires g c =
    let s = (g.V.View.view c.args.view.now).source in
    let passed = subst (λ (asked : Option Reach). passes (has_upgrade s.content) asked ≡ true) c.in-Some.is c.requires.stored in
    let are = cover_stored s c.in-Some.reach c.cover.result passed in
    let few : length c.cover.result ≤ 40 = c.cover.ensures.room (omega (arith, are.ends, c.head.ensures.usable)) in
    (lit< tt, (few, (are.nodes c.cover.ensures.numbers).stored))

pub returns-in-Ok-clause-part : goal.returns-in-Ok-clause-part
returns-in-Ok-clause-part g c =
    let s = (g.V.View.view c.args.view.now).source in
    let reach = c.in-Some.reach in
    let nodes = subst (λ (numbers : List ℕ). GivesTwigs s numbers c.in-Ok.nodes) c.cover.ensures.numbers c.in-Ok.ensures.gives in
    let upgrade : UpgradePart = record { start = reach.start; length = reach.length; nodes = c.in-Ok.nodes; signature = c.head.result.signature } in
    let part : GivesUpgradePart s reach upgrade =
    record { start = refl; length = refl; nodes = nodes; signature = c.head.ensures.signature } in
    answers-some (GivesUpgradePart s) c.args.reach.now reach _ c.in-Some.is part
