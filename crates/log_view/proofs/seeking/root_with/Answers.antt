use Rattle.std.proofs.Common.{ℕ, List, slice_get, sym, ap, ◌∙◌}
use Rattle.flat_tree.specs.Subtrees.{numbers_of}
use Rattle.flat_tree.specs.Roots.{full_roots_of}
use Rattle.log_view.proofs.Spots.{root_leads}
use Rattle.log_view.proofs.seeking.root_with.Goals as goal

pub returns-then-rest-size-clause-leads : goal.returns-then-rest-size-clause-leads
returns-then-rest-size-clause-leads g c =
    let numbers = c.full_roots-numbers.ensures.numbers ∙ ap (λ (n : ℕ). numbers_of (full_roots_of n)) c.head.ensures.length in
    let there = ap (λ (ns : List ℕ). slice_get ns c.loop-place.place) (sym numbers) ∙ c.at-root.ensures in
    (root_leads _ _ c.loop-place.place c.at-root.result c.args.byte c.loop-place.rest _ _ _ (c.as_slice-roots.ensures.items ∙ c.roots.ensures) there
    c.depth.ensures.depth c.offset.ensures.offset c.loop-place.invariant c.if-rest-size.true).1

pub returns-then-rest-size-clause-within : goal.returns-then-rest-size-clause-within
returns-then-rest-size-clause-within g c =
    let numbers = c.full_roots-numbers.ensures.numbers ∙ ap (λ (n : ℕ). numbers_of (full_roots_of n)) c.head.ensures.length in
    let there = ap (λ (ns : List ℕ). slice_get ns c.loop-place.place) (sym numbers) ∙ c.at-root.ensures in
    (root_leads (g.V.View.view c.args.view.now).source _ c.loop-place.place c.at-root.result c.args.byte c.loop-place.rest _ _ _ (c.as_slice-roots.ensures.items ∙ c.roots.ensures) there
    c.depth.ensures.depth c.offset.ensures.offset c.loop-place.invariant c.if-rest-size.true).0
