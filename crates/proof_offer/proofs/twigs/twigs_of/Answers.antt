use Rattle.std.proofs.Common.{ℕ, List, length, ◌+◌, [], ◌∷◌, sym, subst, ap, ◌∙◌, arith, rules, length-append}
use Rattle.std.proofs.lemmas.List.{take_all}
use Rattle.node_set.proofs.AppendLemmas.{all_get}
use Rattle.log_view.specs.Views.{Source, IsStored, GivesNode}
use Rattle.proof_offer.specs.Parts.{GivesTwigs}
use Rattle.proof_offer.proofs.Gives.{gives-more, gives-node}
use Rattle.proof_offer.proofs.twigs.twigs_of.Goals as goal

pub node-requires : goal.node-requires
node-requires g c =
    let kept = c.loop-at.invariant.keeps.source in
    record { stored = subst (λ (s : Source). IsStored s c.at.result) (sym kept) (all_get _ c.args.numbers.now c.loop-at.at _ c.requires.stored c.at.ensures) }

pub loop-at-preserved : goal.loop-at-preserved
loop-at-preserved g c =
    let so_far = c.loop-at.invariant in
    let given = subst (λ (s : Source). GivesNode s c.at.result c.in-Ok.node) so_far.keeps.source c.in-Ok.ensures.gives in
    record {
      keeps = search rules;
      count = ap length c.push.ensures ∙ length-append _ (_ ∷ []) ∙ ap (λ (n : ℕ). n + 1) so_far.count;
      gives = gives-more _ c.args.numbers.now c.loop-at.at _ _ _ _ c.at.ensures so_far.gives (gives-node _ _ _ _ given c.twig.ensures (search rules)) c.push.ensures;
    }

pub returns-clause-gives : goal.returns-clause-gives
returns-clause-gives g c =
    let s = (g.V.View.view c.args.view.now).source in
    subst (λ (read : List ℕ). GivesTwigs s read c.loop-at.twigs) (take_all _ c.args.numbers.now (omega (arith, c.loop-at-test.false, c.len-at-end.ensures.len)))
    c.loop-at.invariant.gives
