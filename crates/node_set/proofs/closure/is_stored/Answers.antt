use Rattle.std.proofs.Common.{sym, arith}
use Rattle.flat_tree.proofs.NumberLemmas.{some_number}
use Rattle.bit_field.specs.Places.{has}
use Rattle.node_set.proofs.StoredTest.{past_closure, span_ordered}
use Rattle.node_set.proofs.closure.is_stored.Goals as goal

pub returns-then-index-places : goal.returns-then-index-places
returns-then-index-places c =
    let past = c.if-index-places.true in
    λ depth offset is. sym (past_closure _ (has c.args.held.now) depth offset (omega (arith, is, past, c.places.ensures.places, c.requires)))

pub is_any_held-requires-clause-some : goal.is_any_held-requires-clause-some
is_any_held-requires-clause-some c =
    let node = some_number c.parent.result in
    span_ordered node.0 node.1.0 _ _ (c.spans-first.ensures.first node.0 node.1.0 node.1.1) (c.spans-first.ensures.last node.0 node.1.0 node.1.1)
