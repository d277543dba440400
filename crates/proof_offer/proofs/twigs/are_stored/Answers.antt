use Rattle.std.proofs.Common.{◌≡◌, true, false, sym, ap, ◌∙◌, arith, rules}
use Rattle.std.proofs.lemmas.Bool.{and_from}
use Rattle.std.proofs.lemmas.List.{take_all}
use Rattle.flat_tree.proofs.RootLemmas.{length-numbers}
use Rattle.proof_make.specs.Offers.{has_nodes}
use Rattle.proof_offer.proofs.Stored.{stored_next}
use Rattle.proof_offer.proofs.twigs.are_stored.Goals as goal

pub loop-at-preserved : goal.loop-at-preserved
loop-at-preserved g c trees is =
    let m = (g.V.View.view c.args.view.now).source.content in
    let next = stored_next m trees c.args.numbers.now c.loop-at.at _ _ is c.at.ensures c.is_stored.ensures in
    let there : c.is_stored.result ≡ true = search rules in
    next.more ∙ and_from _ _ (c.loop-at.invariant trees is) there

pub returns-then-not-is_stored : goal.returns-then-not-is_stored
returns-then-not-is_stored g c trees is =
    let m = (g.V.View.view c.args.view.now).source.content in
    let lacks : c.is_stored.result ≡ false = search rules in
    sym ((stored_next m trees c.args.numbers.now c.loop-at.at _ _ is c.at.ensures c.is_stored.ensures).none lacks)

pub returns : goal.returns
returns g c trees is =
    let m = (g.V.View.view c.args.view.now).source.content in
    let whole = take_all c.loop-at.at trees
    (omega (arith, length-numbers c.args.numbers.now trees is, c.len-at-end.ensures.len, c.loop-at-test.false)) in
    sym (ap (has_nodes m) (sym whole) ∙ c.loop-at.invariant trees is)
