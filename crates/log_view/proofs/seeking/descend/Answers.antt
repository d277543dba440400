use Rattle.std.proofs.Common.{ℕ, ◌≡◌, ◌≤◌, ◌-◌, suc, rules, refl, sym, subst, ◌∙◌, arith}
use Rattle.flat_tree.specs.Subtrees.{end_block_of}
use Rattle.node_set.specs.Contents.{held}
use Rattle.log_view.proofs.Spots.{leads_down, leaf_held, half_stored, half_of, ends_there}
use Rattle.log_view.proofs.seeking.descend.Goals as goal

pub loop-level-preserved : goal.loop-level-preserved
loop-level-preserved g c =
    let s = (g.V.View.view c.args.view.now).source in
    let now = (g.V.View.view c.loop-level.view).source in
    let l = c.loop-level in
    let at = c.in-Ok-Some in
    let low = l.level - 1 in
    let next : l.level ≡ suc low = omega (arith, c.loop-level-test.true) in
    let goes = half_of s now low l.index l.rest at.field-0 at.half at.left l.invariant.keeps.source at.field-0-is at.ensures.half at.ensures.goes in
    record {
      keeps = search rules;
      within = half_stored s.content.length (held s.content) low l.index
          (subst (λ (d : ℕ). end_block_of d l.index ≤ s.content.length) next l.invariant.within) at.half goes.0;
      leads = λ byte levels leads.
          let so_far = l.invariant.leads byte levels leads in
          (suc so_far.0, leads_down s byte so_far.0 l.level low l.index at.half l.rest at.left next goes.0 so_far.1 goes.1);
    }

pub returns-in-Ok-None-clause-none : goal.returns-in-Ok-None-clause-none
returns-in-Ok-None-clause-none g c = λ byte levels leads none.
    let s = (g.V.View.view c.args.view.now).source in
    let now = (g.V.View.view c.loop-level.view).source in
    let l = c.loop-level in
    let next : l.level ≡ suc (l.level - 1) = omega (arith, c.loop-level-test.true) in
    let so_far = l.invariant.leads byte levels leads in
    ends_there s now byte so_far.0 l.level (suc (l.level - 1)) l.index l.rest l.invariant.keeps.source next so_far.1
    (c.in-Ok-None.ensures.none c.in-Ok-None.field-0-is)

pub returns-then-not-held-clause-none : goal.returns-then-not-held-clause-none
returns-then-not-held-clause-none g c = λ byte levels leads none.
    let s = (g.V.View.view c.args.view.now).source in
    let now = (g.V.View.view c.loop-level.view).source in
    let l = c.loop-level in
    let so_far = l.invariant.leads byte levels leads in
    let leaf : l.level ≡ 0 = omega (arith, c.loop-level-test.false) in
    ends_there s now byte so_far.0 l.level l.level l.index l.rest l.invariant.keeps.source refl so_far.1
    (leaf_held (held now.content) l.level l.index leaf ∙ sym c.held.ensures ∙ c.if-not-held.true)
