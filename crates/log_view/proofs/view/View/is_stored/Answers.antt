use Rattle.std.proofs.Common.{◌≡◌, ◌/◌, ℕ, suc, sym, ap, ◌∙◌, arith, add-one}
use Rattle.flat_tree.specs.Subtrees.{number}
use Rattle.flat_tree.proofs.NumberLemmas.{some_number}
use Rattle.node_set.proofs.StoredTest.{past_closure, span_ordered}
use Rattle.log_view.proofs.StoredNodes.{any_found, closure_below}
use Rattle.log_view.proofs.view.View.is_stored.Goals as goal

pub returns-then-index-length : goal.returns-then-index-length
returns-then-index-length g c =
    let past = c.if-index-length.true in
    λ depth offset is. sym (past_closure _ _ depth offset (omega (arith, is, past, c.head-length.ensures.length)))

pub first_held-requires-clause-ordered : goal.first_held-requires-clause-ordered
first_held-requires-clause-ordered g c =
    let node = some_number c.parent.result in
    span_ordered node.0 node.1.0 _ _ (c.spans-first.ensures.first node.0 node.1.0 node.1.1) (c.spans-first.ensures.last node.0 node.1.0 node.1.1)

pub returns : goal.returns
returns g c depth offset is =
    let parent : c.parent.result ≡ number (suc depth) (offset / 2) =
    c.parent.ensures.parent depth offset (sym is) ∙ ap (λ (d : ℕ). number d (offset / 2)) (add-one depth) in
    let starts = c.spans-first.ensures.first (suc depth) (offset / 2) parent in
    let ends = c.spans-first.ensures.last (suc depth) (offset / 2) parent in
    c.is_some.ensures
    ∙ any_found _ (suc depth) (offset / 2) _ _ c.first_held.result (omega (arith, starts)) (omega (arith, ends))
    c.first_held.ensures.found c.first_held.ensures.none
    ∙ sym (closure_below _ _ depth offset (omega (arith, ends, c.if-last-length-2.false, c.head-length.ensures.length)))
