use Rattle.std.proofs.Common.{Bool, sym, ap, subst, ◌∙◌, arith}
use Rattle.std.specs.Prelude.{Option, IfSome, ◌&&◌}
use Rattle.proof_form.specs.declared.request.Want.{Want}
use Rattle.proof_form.specs.Requests.{WantFits}
use Rattle.proof_make.specs.Offers.{passes}
use Rattle.proof_offer.specs.Replies.{has_hash}
use Rattle.proof_offer.proofs.Stored.{hash_told, hash_lacks}
use Rattle.proof_offer.proofs.hash.has_hash.Goals as goal

pub returns-then-is_stored : goal.returns-then-is_stored
returns-then-is_stored g c =
    let m = (g.V.View.view c.args.view.now).source.content in
    let fits = subst (λ (asked : Option Want). IfSome asked WantFits) c.in-Some.is c.requires.fits in
    let told = hash_told m c.in-Some.want c.siblings.result c.is_stored.result c.are_stored.result (omega (arith, fits.index)) c.is_stored.ensures
    c.siblings.ensures.numbers c.are_stored.ensures in
    sym (ap (λ (b : Bool). b && c.are_stored.result) c.if-is_stored.true) ∙ told ∙ sym (ap (passes (has_hash m)) c.in-Some.is)

pub returns-else-is_stored : goal.returns-else-is_stored
returns-else-is_stored g c =
    let m = (g.V.View.view c.args.view.now).source.content in
    let fits = subst (λ (asked : Option Want). IfSome asked WantFits) c.in-Some.is c.requires.fits in
    c.if-is_stored.false
    ∙ sym (hash_lacks m c.in-Some.want c.is_stored.result (omega (arith, fits.index)) c.is_stored.ensures c.if-is_stored.false)
    ∙ sym (ap (passes (has_hash m)) c.in-Some.is)
