use Rattle.std.proofs.Common.{◌≡◌, ℕ, List, length, ◌≤◌, true, subst, arith, lit<}
use Rattle.std.specs.Prelude.{Option, IfSome}
use Rattle.proof_form.specs.declared.request.Want.{Want}
use Rattle.proof_form.specs.Requests.{WantFits}
use Rattle.proof_make.specs.Offers.{passes, has_block}
use Rattle.log_view.specs.Views.{Source, GivesBlock}
use Rattle.proof_offer.specs.Parts.{GivesTwigs, GivesBlockPart}
use Rattle.proof_offer.proofs.Stored.{block_below, block_stored}
use Rattle.proof_offer.proofs.Gives.{answers-some, gives-block}
use Rattle.proof_offer.proofs.block.block_part.Goals as goal

pub siblings-requires-clause-node : goal.siblings-requires-clause-node
siblings-requires-clause-node g c =
    let m = (g.V.View.view c.args.view.now).source.content in
    let passed = subst (λ (asked : Option Want). passes (has_block m) asked ≡ true) c.in-Some.is c.requires.held in
    omega (arith, block_below m c.in-Some.want passed, c.requires.few)

pub twigs_of-requires : goal.twigs_of-requires
twigs_of-requires g c =
    let s = (g.V.View.view c.args.view.now).source in
    let passed = subst (λ (asked : Option Want). passes (has_block s.content) asked ≡ true) c.in-Some.is c.requires.held in
    let fits = subst (λ (asked : Option Want). IfSome asked WantFits) c.in-Some.is c.requires.fits in
    let few : length c.siblings.result ≤ 20 = omega (arith, c.siblings.ensures.count, fits.nodes) in
    (lit< tt, (few, (block_stored s c.in-Some.want c.siblings.result passed c.siblings.ensures.numbers).stored))

pub returns-in-Ok-block-clause-part : goal.returns-in-Ok-block-clause-part
returns-in-Ok-block-clause-part g c =
    let s = (g.V.View.view c.args.view.now).source in
    let want = c.in-Some.want in
    let passed = subst (λ (asked : Option Want). passes (has_block s.content) asked ≡ true) c.in-Some.is c.requires.held in
    let are = (block_stored s want c.siblings.result passed c.siblings.ensures.numbers).are in
    let trail = subst (λ (numbers : List ℕ). GivesTwigs s numbers c.in-Ok.trail) are c.in-Ok.ensures.gives in
    let block = subst (λ (t : Source). GivesBlock t want.index c.block.new.out c.in-Ok-block.len) c.in-Ok.ensures.looks.keeps.source
    c.in-Ok-block.ensures.gives in
    let part = gives-block s want c.block.new.out c.in-Ok-block.len c.in-Ok.trail block trail in
    answers-some (GivesBlockPart s) c.args.want.now want _ c.in-Some.is part
