use Rattle.std.proofs.Common.{◌≡◌, ℕ, [], ◌++◌, ◌-◌, List, length, length-append, replicate, refl, ap, sym, ◌∙◌, arith}
use Rattle.std.proofs.lemmas.List.{length-replicate, append-nil}
use Rattle.core_state.proofs.AdmitLemmas.{filled_more}
use Rattle.core_state.proofs.admit.fill_up.Goals as goal

pub loop-init : goal.loop-init
loop-init c =
    let none : c.len-many.result - length c.args.blocks.now.items ≡ 0 = omega (arith, c.len-many.ensures) in
    (sym (ap (λ (n : ℕ). c.args.blocks.now.items ++ replicate n []) none ∙ append-nil c.args.blocks.now.items), refl)

pub push_reserved-requires : goal.push_reserved-requires
push_reserved-requires c =
    let many = ap length c.loop.invariant.0 ∙ length-append c.args.blocks.now.items (replicate {A = List ℕ} (c.loop.counter - length c.args.blocks.now.items) []) in
    omega (arith, many, length-replicate {A = List ℕ} (c.loop.counter - length c.args.blocks.now.items) [], c.loop.invariant.1, c.requires.room, c.loop-test.true, c.loop.auto.counter, c.len-many.ensures)

pub loop-preserved : goal.loop-preserved
loop-preserved c = (
  c.push_reserved.ensures.items
      ∙ filled_more c.args.blocks.now.items c.loop.blocks.items c.none.result c.loop.counter (omega (arith, c.loop.auto.counter, c.len-many.ensures)) c.none.ensures c.loop.invariant.0,
  c.push_reserved.ensures.capacity ∙ c.loop.invariant.1,
)

pub returns-then-count-many : goal.returns-then-count-many
returns-then-count-many c =
    let none : c.args.count - length c.args.blocks.now.items ≡ 0 = omega (arith, c.len-many.ensures, c.if-count-many.true) in
    sym (ap (λ (n : ℕ). c.args.blocks.now.items ++ replicate n []) none ∙ append-nil c.args.blocks.now.items)

pub returns : goal.returns
returns c =
    let end = c.loop.auto.counter-end (omega (arith, c.if-count-many.false)) in
    let many : c.loop.counter - length c.args.blocks.now.items ≡ c.args.count - length c.args.blocks.now.items =
    omega (arith, c.loop-test.false, c.loop.auto.counter, end, c.len-many.ensures) in
    c.loop.invariant.0 ∙ ap (λ (n : ℕ). c.args.blocks.now.items ++ replicate n []) many
