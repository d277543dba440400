use Rattle.std.proofs.Common.{◌∙◌, ap, refl, sym, Option}
use Rattle.proof_form.specs.Proofs.{view}
use Rattle.node_set.specs.declared.fault.Refusal.{Refusal}
use Rattle.node_set.specs.Refuses.{or_else}
use Rattle.proof_check.proofs.ByNumbers.{early_is}
use Rattle.proof_check.proofs.heads.refused_early.Goals as goal

pub returns-in-Some-out_of_range : goal.returns-in-Some-out_of_range
returns-in-Some-out_of_range c = λ m fork blocks.
    let p = view c.args.proof.now in
    let all = early_is p m _ _ _ _ _ _ _ c.is_none.ensures c.bytes_of_roots-bytes.ensures.sum (c.length_with.ensures p m refl blocks)
    (c.refused_by_head-by_head.ensures m fork blocks) c.passed_limit.ensures c.out_of_range.ensures in
    sym (ap (λ (l : Option Refusal). or_else l (or_else c.out_of_range.result c.refused_by_head-by_head.result)) c.in_default.is
    ∙ ap (λ (r : Option Refusal). or_else r c.refused_by_head-by_head.result) c.in-Some-out_of_range.is) ∙ all

pub returns : goal.returns
returns c = λ m fork blocks.
    let p = view c.args.proof.now in
    let all = early_is p m _ _ _ _ _ _ _ c.is_none.ensures c.bytes_of_roots-bytes.ensures.sum (c.length_with.ensures p m refl blocks)
    (c.refused_by_head-by_head.ensures m fork blocks) c.passed_limit.ensures c.out_of_range.ensures in
    sym (ap (λ (l : Option Refusal). or_else l (or_else c.out_of_range.result c.refused_by_head-by_head.result)) c.in_default.is
    ∙ ap (λ (r : Option Refusal). or_else r c.refused_by_head-by_head.result) c.in_default-out_of_range.is) ∙ all
