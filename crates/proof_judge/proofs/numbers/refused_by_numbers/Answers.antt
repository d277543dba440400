use Rattle.std.proofs.Common.{◌∙◌, ap, refl, sym, Option}
use Rattle.proof_form.specs.Proofs.{view}
use Rattle.node_set.specs.declared.fault.Refusal.{Refusal}
use Rattle.node_set.specs.Refuses.{or_else}
use Rattle.proof_judge.proofs.Ranges.{in_order}
use Rattle.proof_judge.proofs.numbers.refused_by_numbers.Goals as goal

pub returns-in-Some-out_of_range : goal.returns-in-Some-out_of_range
returns-in-Some-out_of_range c = λ m fork blocks same.
    let p = view c.args.proof.now in
    let by_head = c.refused_by_head-by_head.result in
    sym (ap (λ (l : Option Refusal). or_else l (or_else c.out_of_range.result by_head)) c.in_default.is
    ∙ ap (λ (r : Option Refusal). or_else r by_head) c.in-Some-out_of_range.is)
    ∙ in_order p m _ _ _ _ _ _ c.is_none.ensures (c.bytes_with-bytes.ensures m fork same) (c.length_with.ensures p m refl blocks)
    (c.refused_by_head-by_head.ensures m fork blocks) c.passed_limit.ensures c.out_of_range.ensures

pub returns : goal.returns
returns c = λ m fork blocks same.
    let p = view c.args.proof.now in
    let by_head = c.refused_by_head-by_head.result in
    sym (ap (λ (l : Option Refusal). or_else l (or_else c.out_of_range.result by_head)) c.in_default.is
    ∙ ap (λ (r : Option Refusal). or_else r by_head) c.in_default-out_of_range.is)
    ∙ in_order p m _ _ _ _ _ _ c.is_none.ensures (c.bytes_with-bytes.ensures m fork same) (c.length_with.ensures p m refl blocks)
    (c.refused_by_head-by_head.ensures m fork blocks) c.passed_limit.ensures c.out_of_range.ensures
