use Rattle.std.proofs.Common.{◌≡◌, ℕ, IsTrue, inl, refl, sym, ap, subst, ◌∙◌, rules, false, arith}
use Rattle.flat_tree.specs.Subtrees.{number}
use Rattle.flat_tree.specs.Roots.{full_roots_of}
use Rattle.flat_tree.proofs.RootLemmas.{length-numbers}
use Rattle.node_set.specs.Closure.{in_closure}
use Rattle.node_set.specs.Contents.{Content, held}
use Rattle.core_forks.proofs.RootLists.{given_as, missing_here, HasRead-more, HasRead-done}
use Rattle.core_forks.proofs.truncation.roots_of.Goals as goal

pub returns-in-Ok-None-clause-answers : goal.returns-in-Ok-None-clause-answers
returns-in-Ok-None-clause-answers g c =
    let v = g.V.View.view c.args.view.now in
    let same = c.loop-place.invariant.keeps.keeps.content in
    let gives = given_as _ _ _ _ c.in-Ok-None.field-0-is c.in-Ok-None.ensures.gives in
    let none : (depth offset : ℕ) → number depth offset ≡ c.at-index.result → false ≡ in_closure v.content.length (held v.content) depth offset =
    λ depth offset is. gives.closed depth offset is ∙ ap (λ (m : Content). in_closure m.length (held m) depth offset) same in
    inl (missing_here c.args.to _ _ _ _ c.full_roots-places.ensures.numbers c.len-place-end.ensures.len c.loop-place-test.true c.at-index.ensures v _
    c.loop-place.nodes c.loop-place.invariant.read none)

pub loop-place-preserved : goal.loop-place-preserved
loop-place-preserved g c =
    let v = g.V.View.view c.args.view.now in
    let keeps = c.loop-place.invariant.keeps.keeps in
    let gives = given_as _ _ _ _ c.in-Ok-Some.field-0-is c.in-Ok-Some.ensures.gives in
    record {
      keeps = search rules;
      read = HasRead-more c.args.to _ _ _ _ c.full_roots-places.ensures.numbers c.len-place-end.ensures.len c.loop-place-test.true c.at-index.ensures v _
          c.loop-place.nodes _ c.in-Ok-Some.node c.loop-place.invariant.read c.push.ensures
          (λ depth offset is. gives.closed depth offset is ∙ ap (λ (m : Content). in_closure m.length (held m) depth offset) keeps.content)
          (λ stands depth offset is. gives.content (subst IsTrue (sym keeps.stands) stands) depth offset is ∙ ap (λ (m : Content). m.node depth offset) keeps.content)
          (gives.numbered c.in-Ok-Some.node refl) (gives.size c.in-Ok-Some.node refl);
    }

pub returns-clause-answers : goal.returns-clause-answers
returns-clause-answers g c = HasRead-done _ _ c.args.to c.loop-place.place c.loop-place.nodes
    (omega (arith, c.loop-place-test.false, c.len-place-end.ensures.len, length-numbers c.full_roots-places.result (full_roots_of c.args.to) c.full_roots-places.ensures.numbers))
    c.loop-place.invariant.read
