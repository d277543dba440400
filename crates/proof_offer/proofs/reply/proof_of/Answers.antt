use Rattle.std.proofs.Common.{◌≡◌, ℕ, length, refl, sym, ap, subst, ◌∙◌, arith, rules}
use Rattle.std.specs.Prelude.{Option, IfSome}
use Rattle.std.proofs.lemmas.Option.{IfSome_then}
use Rattle.proof_form.specs.declared.request.Want.{Want}
use Rattle.proof_form.specs.Requests.{WantFits}
use Rattle.proof_form.specs.Proofs.{Proof, block_view}
use Rattle.log_view.specs.Views.{Source}
use Rattle.proof_offer.specs.Parts.{Answers, GivesBlockPart, GivesHashPart, GivesUpgradePart}
use Rattle.proof_offer.specs.Replies.{asked_block, IsReply}
use Rattle.proof_offer.proofs.Fitting.{reply_parts, reply_fits}
use Rattle.proof_offer.proofs.reply.proof_of.Goals as goal

pub asked_block-want-requires-clause-within : goal.asked_block-want-requires-clause-within
asked_block-want-requires-clause-within g c =
    IfSome_then c.args.sought c.requires.sought (λ index is. omega (arith, c.head.ensures.usable.below index is, c.head.ensures.length))

pub returns-in-Ok-upgrade_part : goal.returns-in-Ok-upgrade_part
returns-in-Ok-upgrade_part g c =
    let s = (g.V.View.view c.args.view.now).source in
    let request = c.args.request.now in
    let asked : c.asked_block-want.result ≡ asked_block s.content.length request c.args.sought =
    c.asked_block-want.ensures.asked ∙ ap (λ (n : ℕ). asked_block n request c.args.sought) c.head.ensures.length in
    let fits = subst (λ (o : Option Want). IfSome o WantFits) asked (c.asked_block-want.ensures.fits c.requires.fits) in
    let block = subst (λ (o : Option Want). Answers (GivesBlockPart s) o (block_view c.in-Ok.block)) asked c.in-Ok.ensures.part in
    let first = c.in-Ok.ensures.looks.keeps.source in
    let hash = subst (λ (t : Source). Answers (GivesHashPart t) request.hash c.in-Ok-hash_part.hash) first c.in-Ok-hash_part.ensures.part in
    let second = c.in-Ok-hash_part.ensures.looks.keeps.source ∙ first in
    let upgrade = subst (λ (t : Source). Answers (GivesUpgradePart t) request.upgrade c.in-Ok-upgrade_part.upgrade) second c.in-Ok-upgrade_part.ensures.part in
    let wide : length c.head.result.signature ≡ 64 = search rules in
    let signed = sym (ap length c.head.ensures.signature) ∙ wide in
    let proof : Proof =
    record { fork = request.fork; block = block_view c.in-Ok.block; hash = c.in-Ok-hash_part.hash; seek = request.seek; upgrade = c.in-Ok-upgrade_part.upgrade } in
    let reply : IsReply s request c.args.sought proof = record { fork = refl; block = block; hash = hash; seek = refl; upgrade = upgrade } in
    record {
      given = reply;
      fits = reply_fits s request c.args.sought c.requires.fits c.head.ensures.usable.blocks signed
          (reply_parts s.content request c.args.sought c.requires.answered)
          proof
          fits
          reply;
      looks = search rules;
    }
