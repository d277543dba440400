use Rattle.std.proofs.Common.{◌≡◌, ℕ, true, false, inl, inr, ◌<◌, ◌∙◌, ◌-◌, ◌/◌, ◌%◌, ◌^◌, sym, ap, subst, arith, rules}
use Rattle.node_set.specs.Contents.{Content, held}
use Rattle.std.proofs.lemmas.Bool.{cases_eq}
use Rattle.node_set.specs.Closure.{IsFullRoot, any_under}
use Rattle.node_set.specs.Views.{IsUsable}
use Rattle.proof_check.specs.Growth.{last_over, KnowsHeld}
use Rattle.proof_check.proofs.HeldLemmas.{first_low, searched_step, searched_found, searched_all, left_is_root}
use Rattle.proof_check.proofs.Overs.{full_root_over}
use Rattle.proof_check.proofs.held.first_held.Goals as goal

pub any_held-requires-clause-root : goal.any_held-requires-clause-root
any_held-requires-clause-root g c =
    let root = full_root_over c.args.base (c.args.base - 1) (omega (arith, c.requires.some)) in
    subst (λ (n : ℕ). IsFullRoot n c.args.low ((c.args.base - 1) / 2 ^ c.args.low)) c.requires.base
    (subst (λ (d : ℕ). IsFullRoot c.args.base d ((c.args.base - 1) / 2 ^ d)) (sym c.requires.low) root)

pub returns-in-Ok-true-clause-first : goal.returns-in-Ok-true-clause-first
returns-in-Ok-true-clause-first g c =
    first_low c.args.base (held (g.V.View.view c.args.view.now).content) c.args.low c.args.top c.requires.ordered
    (sym c.in-Ok-true.ensures.any ∙ c.in-Ok-true.field-0-test)

pub left_held-requires-clause-root : goal.left_held-requires-clause-root
left_held-requires-clause-root g c = λ odd.
    let root = left_is_root c.args.base c.loop-level.level c.requires.some (omega (arith, c.requires.low, c.loop-level.invariant.searched.low_is)) odd in
    subst (λ (n : ℕ). IsFullRoot n c.loop-level.level (last_over c.args.base c.loop-level.level - 1))
    (c.requires.base ∙ sym (ap (λ (m : Content). m.length) c.loop-level.invariant.view.keeps.content)) root

pub left_held-requires-clause-usable : goal.left_held-requires-clause-usable
left_held-requires-clause-usable g c = subst IsUsable (sym c.loop-level.invariant.view.keeps.content) c.requires.usable

pub left_held-requires-clause-known : goal.left_held-requires-clause-known
left_held-requires-clause-known g c =
    subst (λ (m : Content). KnowsHeld m.length (held m) c.args.known) (sym c.loop-level.invariant.view.keeps.content) c.requires.known

pub returns-in-Ok-true-left_held-clause-first : goal.returns-in-Ok-true-left_held-clause-first
returns-in-Ok-true-left_held-clause-first g c =
    let level = c.loop-level.level in
    let o = last_over c.args.base level in
    let arm = c.in-Ok-true-left_held in
    let still = ap (λ (m : Content). any_under (held m) level (o - 1)) c.loop-level.invariant.view.keeps.content in
    elim (cases_eq (o % 2) 1) [
      | inl odd ↦
          searched_found c.loop-level.invariant.searched c.args.top c.loop-level-test.true odd (sym still ∙ sym (arm.ensures.right odd) ∙ arm.field-0-test)
      | inr even ↦ let clash : true ≡ false = sym arm.field-0-test ∙ arm.ensures.left (omega (arith, even)) in cc
    ]

pub loop-level-preserved : goal.loop-level-preserved
loop-level-preserved g c =
    let level = c.loop-level.level in
    let o = last_over c.args.base level in
    let arm = c.in-Ok-false-left_held in
    let still = ap (λ (m : Content). any_under (held m) level (o - 1)) c.loop-level.invariant.view.keeps.content in
    let below : (index : ℕ) → held (g.V.View.view c.args.view.now).content index ≡ true → index < c.args.base = λ index is_held. omega (arith, c.requires.base, c.requires.usable.below index is_held) in
    record {
      view = search rules;
      searched = searched_step c.loop-level.invariant.searched c.requires.some below (λ odd. sym still ∙ sym (arm.ensures.right odd) ∙ arm.field-0-test);
    }

pub returns-clause-first : goal.returns-clause-first
returns-clause-first g c =
    searched_all c.loop-level.invariant.searched c.args.top (omega (arith, c.loop-level-test.false, c.loop-level.auto.level-end c.requires.ordered))
