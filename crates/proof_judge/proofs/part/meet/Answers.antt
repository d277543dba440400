use Rattle.std.proofs.Common.{◌+◌, ◌/◌, ◌^◌, arith, sym, subst, ◌∙◌}
use Rattle.log_view.specs.Views.{GivesNode}
use Rattle.proof_judge.specs.Meetings.{part_of}
use Rattle.proof_judge.proofs.PartLemmas.{stored_at, short_meets, full_meets, full_given}
use Rattle.proof_judge.proofs.part.meet.Goals as goal

pub returns-then-count-levels-clause-content : goal.returns-then-count-levels-clause-content
returns-then-count-levels-clause-content g c = λ shows closed.
    short_meets _ (part_of c.args.part.now) _ _ _ closed c.levels_up-levels.ensures.first c.if-count-levels.true c.number_above.ensures.number c.uncovered.ensures

pub node-requires : goal.node-requires
node-requires g c = record { stored = stored_at _ _ (part_of c.args.part.now) _ _ c.levels_up-levels.ensures.first c.number_above-2.ensures.number }

pub returns-in-Ok-clause-content : goal.returns-in-Ok-clause-content
returns-in-Ok-clause-content g c = λ shows closed.
    let part = part_of c.args.part.now in
    let gives = c.in-Ok.ensures.gives in
    full_meets _ part _ _ _ _ closed c.levels_up-levels.ensures.first (omega (arith, c.if-count-levels.false)) c.fold_up-have.ensures.twig
    (gives.numbered ∙ c.number_above-2.ensures.number)
    (gives.shown shows (part.depth + c.levels_up-levels.result) (part.offset / 2 ^ c.levels_up-levels.result) (sym c.number_above-2.ensures.number)) c.compared.ensures

pub returns-in-Ok-clause-given : goal.returns-in-Ok-clause-given
returns-in-Ok-clause-given g c =
    let part = part_of c.args.part.now in
    full_given _ part _ _ _ _ _ c.levels_up-levels.ensures.first (omega (arith, c.if-count-levels.false)) c.fold_up-have.ensures.twig
    (subst (λ n. GivesNode (g.V.View.view c.args.view.now).source n c.in-Ok.stored) c.number_above-2.ensures.number c.in-Ok.ensures.gives)
    c.fold_up-have.ensures.way c.compared.ensures
