use Rattle.std.proofs.Common.{Bool, inl, ap, arith, rules}
use Rattle.std.specs.Prelude.{not}
use Rattle.flat_tree.specs.Covers.{cover_of}
use Rattle.node_set.specs.declared.fault.CoreFault.TheVariants.{NoReply}
use Rattle.node_set.specs.Refuses.{refuse_if}
use Rattle.proof_make.proofs.Covers.{lacks, read_next}
use Rattle.proof_make.proofs.upgrade.twigs_of.Goals as goal

pub returns-in-Ok-None-clause-answers : goal.returns-in-Ok-None-clause-answers
returns-in-Ok-None-clause-answers g c =
    let view = g.V.View.view in
    let none = lacks (view c.args.view.now) (view c.loop-place.view) (cover_of c.args.start c.args.end) _ c.loop-place.place _ c.cover-places.ensures.numbers
    (omega (arith, c.loop-place-test.true, c.len-place-end.ensures.len)) c.at.ensures c.loop-place.invariant.keeps _ c.in-Ok-None.ensures.gives
    c.in-Ok-None.field-0-is in
    inl (ap (λ (b : Bool). refuse_if (not b) NoReply) none)

pub loop-place-preserved : goal.loop-place-preserved
loop-place-preserved g c =
    let view = g.V.View.view in
    let found = c.in-Ok-Some.field-0-is in
    read_next (view c.args.view.now) (view c.loop-place.view) (cover_of c.args.start c.args.end) _ c.loop-place.place _ c.cover-places.ensures.numbers
    (omega (arith, c.loop-place-test.true, c.len-place-end.ensures.len)) c.at.ensures c.loop-place.invariant.keeps _ c.in-Ok-Some.ensures.gives
    _ _ _ c.in-Ok-Some.node _ c.loop-place.invariant (search rules) found c.twig.ensures c.push.ensures
    (record { size = c.in-Ok-Some.ensures.gives.size c.in-Ok-Some.node found; hash = search rules })
