use Rattle.std.proofs.Common.{◌≡◌, ◌+◌, ◌<◌, length, ap, subst, ◌∙◌, arith}
use Rattle.std.proofs.lemmas.List.{length_push}
use Rattle.merkle_nodes.specs.Joined.{Values}
use Rattle.node_set.proofs.NodeMaps.{with_nodes-push}
use Rattle.proof_check.specs.Admission.{Ascends, AllBelow}
use Rattle.proof_check.proofs.Ascending.{below-push, below-pop, below-higher, ascends-push, ascends-pop, put_instead, put_before}
use Rattle.proof_check.proofs.fresh.+put.Goals as goal

pub returns-then-len-eq0-clause-puts : goal.returns-then-len-eq0-clause-puts
returns-then-len-eq0-clause-puts t c = λ value d o.
    rw c.push.ensures (ap (λ (v : Values). v d o) (with_nodes-push c.args.fresh.now value c.args.node))

pub returns-then-last-node-clause-order : goal.returns-then-last-node-clause-order
returns-then-last-node-clause-order t c =
    let order = subst Ascends c.pop-last.ensures c.requires.order in
    let parts = ascends-pop _ _ order in
    let last = below-push _ _ _ (below-higher _ c.args.node.index _ (omega (arith, c.if-last-node.true)) parts.1) c.if-last-node.true in
    rw (c.push-then-last-node-2.ensures, c.push-then-last-node.ensures) (ascends-push _ _ order last)

pub returns-then-last-node-clause-puts : goal.returns-then-last-node-clause-puts
returns-then-last-node-clause-puts t c = λ value d o.
    let old = c.pop-last.ensures in
    rw (c.push-then-last-node-2.ensures, c.push-then-last-node.ensures, old) (ap (λ (v : Values). v d o) (with_nodes-push _ value c.args.node))

pub returns-then-last-node-2-clause-order : goal.returns-then-last-node-2-clause-order
returns-then-last-node-2-clause-order t c =
    let parts = ascends-pop _ _ (subst Ascends c.pop-last.ensures c.requires.order) in
    rw c.push-then-last-node-2-2.ensures (ascends-push _ _ parts.0 (below-higher _ c.args.node.index _ (omega (arith, c.if-last-node-2.true)) parts.1))

pub returns-then-last-node-2-clause-below : goal.returns-then-last-node-2-clause-below
returns-then-last-node-2-clause-below t c = λ end below less.
    rw c.push-then-last-node-2-2.ensures (below-push end _ _ (below-pop end _ _ (subst (AllBelow end) c.pop-last.ensures below)).0 less)

pub returns-then-last-node-2-clause-puts : goal.returns-then-last-node-2-clause-puts
returns-then-last-node-2-clause-puts t c = λ value d o.
    rw (c.push-then-last-node-2-2.ensures, c.pop-last.ensures) (put_instead value _ _ _ d o c.if-last-node-2.true)

pub put-requires : goal.put-requires
put-requires t c =
    let parts = ascends-pop _ _ (subst Ascends c.pop-last.ensures c.requires.order) in
    let shorter : length c.args.fresh.now ≡ length c.pop-last.new.self + 1 = ap length c.pop-last.ensures ∙ length_push _ _ in
    (omega (arith, shorter), (omega (arith, shorter, c.requires.room), parts.0))

pub returns-clause-order : goal.returns-clause-order
returns-clause-order t c =
    let parts = ascends-pop _ _ (subst Ascends c.pop-last.ensures c.requires.order) in
    let below = c.put.ensures.below c.pop-last.result.index parts.1 (omega (arith, c.if-last-node.false, c.if-last-node-2.false)) in
    rw c.push-2.ensures (ascends-push _ _ c.put.ensures.order below)

pub returns-clause-below : goal.returns-clause-below
returns-clause-below t c = λ end below less.
    let parts = below-pop end _ _ (subst (AllBelow end) c.pop-last.ensures below) in
    rw c.push-2.ensures (below-push end _ _ (c.put.ensures.below end parts.0 less) parts.1)

pub returns-clause-puts : goal.returns-clause-puts
returns-clause-puts t c = λ value d o.
    let less : c.args.node.index < c.pop-last.result.index = omega (arith, c.if-last-node.false, c.if-last-node-2.false) in
    rw (c.push-2.ensures, c.pop-last.ensures) (put_before value _ _ _ _ d o less (c.put.ensures.puts value d o))
