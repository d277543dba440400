use Rattle.std.proofs.Common.{◌≡◌, true, false, Option, Some, None, refl, sym, ap, subst, ◌∙◌}
use Rattle.std.specs.Prelude.{is_some}
use Rattle.proof_form.specs.Proofs.{view as proof_view}
use Rattle.log_view.specs.Views.{Source}
use Rattle.proof_offer.specs.Replies.{has_reply, IsReply}
use Rattle.proof_offer.proofs.Deciding.{decided}
use Rattle.proof_offer.proofs.Fitting.{reply_parts}
use Rattle.proof_offer.proofs.Making.{reply_made}
use Rattle.proof_offer.proofs.reply.make.Goals as goal

none_of : {A : Type 0} (found : Option A) → is_some found ≡ false → found ≡ None
none_of None is = refl
none_of (Some a) is = cc

pub returns-then-not-has_reply-clause-none : goal.returns-then-not-has_reply-clause-none
returns-then-not-has_reply-clause-none g c shows sound is =
    let s = (g.V.View.view c.args.view.now).source in
    let request = c.args.request.now in
    let same = c.in-Ok.ensures.looks.keeps.source in
    let lacks : has_reply s.content request c.in-Ok.sought ≡ false =
    ap (λ (t : Source). has_reply t.content request c.in-Ok.sought) (sym same) ∙ sym c.has_reply.ensures ∙ c.if-not-has_reply.true in
    none_of _ (decided s.content sound request c.in-Ok.sought (c.in-Ok.ensures.sought shows sound) ∙ lacks)

pub returns-in-Ok-proof_of-clause-made : goal.returns-in-Ok-proof_of-clause-made
returns-in-Ok-proof_of-clause-made g c shows sound =
    let s = (g.V.View.view c.args.view.now).source in
    let request = c.args.request.now in
    let same = c.in-Ok.ensures.looks.keeps.source in
    let passed : has_reply s.content request c.in-Ok.sought ≡ true =
    ap (λ (t : Source). has_reply t.content request c.in-Ok.sought) (sym same) ∙ sym c.has_reply.ensures ∙ c.if-not-has_reply.false in
    let given = subst (λ (t : Source). IsReply t request c.in-Ok.sought (proof_view c.in-Ok-proof_of.proof)) same c.in-Ok-proof_of.ensures.given in
    reply_made s shows request c.in-Ok.sought c.requires.fits (reply_parts s.content request c.in-Ok.sought passed) (c.in-Ok.ensures.sought shows sound) _ given
