use Rattle.std.proofs.Common.{◌≡◌, ℕ, List, length, ◌≤◌, true, sym, subst, arith, rules, lit<}
use Rattle.std.specs.Prelude.{Option, IfSome}
use Rattle.std.specs.List.{AllByRecursion}
use Rattle.proof_form.specs.declared.request.Want.{Want}
use Rattle.proof_form.specs.Requests.{WantFits}
use Rattle.proof_make.specs.Offers.{passes}
use Rattle.log_view.specs.Views.{Source, IsStored}
use Rattle.proof_offer.specs.Parts.{GivesTwigs, GivesHashPart}
use Rattle.proof_offer.specs.Replies.{has_hash}
use Rattle.proof_offer.proofs.Stored.{node_stored, hash_stored}
use Rattle.proof_offer.proofs.Gives.{answers-some, gives-hash}
use Rattle.proof_offer.proofs.hash.hash_part.Goals as goal

pub node-requires : goal.node-requires
node-requires g c =
    let s = (g.V.View.view c.args.view.now).source in
    let passed = subst (λ (asked : Option Want). passes (has_hash s.content) asked ≡ true) c.in-Some.is c.requires.stored in
    let fits = subst (λ (asked : Option Want). IfSome asked WantFits) c.in-Some.is c.requires.fits in
    record { stored = node_stored s c.in-Some.want (omega (arith, fits.index)) passed }

pub twigs_of-requires : goal.twigs_of-requires
twigs_of-requires g c =
    let s = (g.V.View.view c.args.view.now).source in
    let passed = subst (λ (asked : Option Want). passes (has_hash s.content) asked ≡ true) c.in-Some.is c.requires.stored in
    let fits = subst (λ (asked : Option Want). IfSome asked WantFits) c.in-Some.is c.requires.fits in
    let few : length c.siblings.result ≤ 20 = omega (arith, c.siblings.ensures.count, fits.nodes) in
    let are = hash_stored s c.in-Some.want c.siblings.result (omega (arith, fits.index)) passed c.siblings.ensures.numbers in
    (lit< tt, (few, subst (λ (t : Source). AllByRecursion (IsStored t) c.siblings.result) (sym c.in-Ok.ensures.looks.keeps.source) are.stored))

pub returns-in-Ok-twigs_of-clause-part : goal.returns-in-Ok-twigs_of-clause-part
returns-in-Ok-twigs_of-clause-part g c =
    let s = (g.V.View.view c.args.view.now).source in
    let want = c.in-Some.want in
    let passed = subst (λ (asked : Option Want). passes (has_hash s.content) asked ≡ true) c.in-Some.is c.requires.stored in
    let fits = subst (λ (asked : Option Want). IfSome asked WantFits) c.in-Some.is c.requires.fits in
    let are = hash_stored s want c.siblings.result (omega (arith, fits.index)) passed c.siblings.ensures.numbers in
    let same = subst (λ (t : Source). GivesTwigs t c.siblings.result c.in-Ok-twigs_of.trail) c.in-Ok.ensures.looks.keeps.source
    c.in-Ok-twigs_of.ensures.gives in
    let trail = subst (λ (numbers : List ℕ). GivesTwigs s numbers c.in-Ok-twigs_of.trail) are.are same in
    let part = gives-hash s want c.in-Ok.node c.in-Ok-twigs_of.trail c.in-Ok.ensures.gives (search rules) trail in
    answers-some (GivesHashPart s) c.args.want.now want _ c.in-Some.is part
