use Rattle.std.proofs.Common.{ℕ, ◌<◌, refl, sym, ap, subst, ◌∙◌, arith}
use Rattle.std.specs.Prelude.{IfSome}
use Rattle.node_set.specs.Contents.{held, roots, bytes_under}
use Rattle.node_set.proofs.SoundLemmas.{roots_shape}
use Rattle.proof_form.specs.Proofs.{view, block_view}
use Rattle.proof_check.specs.Growth.{IsJoined, HasJoined}
use Rattle.proof_check.specs.Meets.{seen, IsValue}
use Rattle.proof_check.specs.Reaching.{IfPart, AgreesBelow, joined_of, IsReach, HasReach, ReachesBlock}
use Rattle.proof_check.specs.Upgraded.{length_after}
use Rattle.proof_check.proofs.Reaches.{due_longer, due_few, due_numbers, joined_below_end, reach_with_block, reach_without, has_with_block, has_without, both_ok, ok_more}
use Rattle.proof_check.proofs.reach.gather.Goals as goal

pub grown-joined-requires-clause-shape : goal.grown-joined-requires-clause-shape
grown-joined-requires-clause-shape g c =
    let m = (g.V.View.view c.args.view.now).content in
    rw (c.roots.ensures, c.requires.head) (roots_shape m.node m.length)

pub grown-joined-requires-clause-due : goal.grown-joined-requires-clause-due
grown-joined-requires-clause-due g c =
    let m = (g.V.View.view c.args.view.now).content in
    rw c.roots.ensures (due_numbers m (bytes_under (roots m)) c.args.head.now.length c.args.proof.now.upgrade c.requires.head c.requires.due.upgrade)

pub reach_block-requires-clause-longer : goal.reach_block-requires-clause-longer
reach_block-requires-clause-longer g c =
    let m = (g.V.View.view c.args.view.now).content in
    let p = view c.args.proof.now in
    omega (arith, c.length_with-to.ensures p m refl (sym c.requires.head), due_longer p m _ c.requires.due, c.requires.head)

pub reach_block-requires-clause-few : goal.reach_block-requires-clause-few
reach_block-requires-clause-few g c =
    let m = (g.V.View.view c.args.view.now).content in
    let p = view c.args.proof.now in
    omega (arith, c.length_with-to.ensures p m refl (sym c.requires.head), due_few p m _ c.requires.due c.requires.usable.blocks)

pub reach_block-requires-clause-within : goal.reach_block-requires-clause-within
reach_block-requires-clause-within g c =
    let m = (g.V.View.view c.args.view.now).content in
    let p = view c.args.proof.now in
    let here = subst (λ o. IfPart (block_view o) (λ b. b.index < length_after p m)) c.in-Some.is c.requires.due.block in
    omega (arith, c.length_with-to.ensures p m refl (sym c.requires.head), here)

pub reach_block-requires-clause-joined : goal.reach_block-requires-clause-joined
reach_block-requires-clause-joined g c =
    let m = (g.V.View.view c.args.view.now).content in
    let p = view c.args.proof.now in
    subst (λ (n : ℕ). IsJoined c.args.head.now.length n c.grown-joined.result) (sym (c.length_with-to.ensures p m refl (sym c.requires.head)))
    (c.grown-joined.ensures.joined p m refl (sym c.requires.head))

pub reach_none-requires-clause-longer : goal.reach_none-requires-clause-longer
reach_none-requires-clause-longer g c =
    let m = (g.V.View.view c.args.view.now).content in
    let p = view c.args.proof.now in
    omega (arith, c.length_with-to.ensures p m refl (sym c.requires.head), due_longer p m _ c.requires.due, c.requires.head)

pub reach_none-requires-clause-few : goal.reach_none-requires-clause-few
reach_none-requires-clause-few g c =
    let m = (g.V.View.view c.args.view.now).content in
    let p = view c.args.proof.now in
    omega (arith, c.length_with-to.ensures p m refl (sym c.requires.head), due_few p m _ c.requires.due c.requires.usable.blocks)

pub reach_none-requires-clause-joined : goal.reach_none-requires-clause-joined
reach_none-requires-clause-joined g c =
    let m = (g.V.View.view c.args.view.now).content in
    let p = view c.args.proof.now in
    subst (λ (n : ℕ). IsJoined c.args.head.now.length n c.grown-joined.result) (sym (c.length_with-to.ensures p m refl (sym c.requires.head)))
    (c.grown-joined.ensures.joined p m refl (sym c.requires.head))

pub returns-in-Some-clause-reach : goal.returns-in-Some-clause-reach
returns-in-Some-clause-reach g c =
    let m = (g.V.View.view c.args.view.now).content in
    let p = view c.args.proof.now in
    let b = seen c.in-Some.block in
    let to_is = c.length_with-to.ensures p m refl (sym c.requires.head) in
    let joined = subst (λ (n : ℕ). IsJoined c.args.head.now.length n c.grown-joined.result) (sym to_is) (c.grown-joined.ensures.joined p m refl (sym c.requires.head)) in
    both_ok c.reach_block.result (ReachesBlock c.args.head.now.length c.length_with-to.result (held m) b.index c.grown-joined.result)
    (ReachesBlock c.args.head.now.length c.length_with-to.result (held m) b.index c.grown-joined.result) (IsReach p m) c.reach_block.ensures.reach c.reach_block.ensures.reach
    (λ reach one other. reach_with_block p m c.args.head.now.length c.length_with-to.result c.grown-joined.result reach c.requires.head to_is joined
    (λ none. c.grown-joined.ensures.same none ∙ c.roots.ensures) b (ap block_view c.in-Some.is) one)

pub returns-in-Some-clause-values : goal.returns-in-Some-clause-values
returns-in-Some-clause-values g c = λ stands sound.
    let m = (g.V.View.view c.args.view.now).content in
    let p = view c.args.proof.now in
    let b = seen c.in-Some.block in
    let base = c.args.head.now.length in
    let to_is = c.length_with-to.ensures p m refl (sym c.requires.head) in
    let joined = subst (λ (n : ℕ). IsJoined base n c.grown-joined.result) (sym to_is) (c.grown-joined.ensures.joined p m refl (sym c.requires.head)) in
    let has = c.grown-joined.ensures.values p m refl (sym c.requires.head) sound c.roots.ensures in
    let agrees = subst (λ (n : ℕ). AgreesBelow n m.node (joined_of p m)) (sym c.requires.head) (joined_below_end p m _ c.requires.fits sound c.requires.due) in
    let value = c.reach_block.ensures.values stands (joined_of p m) (subst (λ (n : ℕ). HasJoined base n (joined_of p m) c.grown-joined.result) (sym to_is) has) agrees in
    both_ok c.reach_block.result (ReachesBlock base c.length_with-to.result (held m) b.index c.grown-joined.result)
    (λ reach. IfSome reach.met (IsValue (joined_of p m) b.index)) (HasReach p m) c.reach_block.ensures.reach value
    (λ reach one other. has_with_block p m base c.length_with-to.result c.grown-joined.result reach c.requires.head to_is joined
    (λ none. c.grown-joined.ensures.same none ∙ c.roots.ensures) b (ap block_view c.in-Some.is) has one other)

pub returns-in-None-clause-reach : goal.returns-in-None-clause-reach
returns-in-None-clause-reach g c =
    let m = (g.V.View.view c.args.view.now).content in
    let p = view c.args.proof.now in
    let base = c.args.head.now.length in
    let to_is = c.length_with-to.ensures p m refl (sym c.requires.head) in
    let joined = subst (λ (n : ℕ). IsJoined base n c.grown-joined.result) (sym to_is) (c.grown-joined.ensures.joined p m refl (sym c.requires.head)) in
    ok_more c.reach_none.result (IsReach p m) c.reach_none.ensures.reach
    (λ reach has. reach_without p m base c.length_with-to.result c.grown-joined.result reach c.requires.head to_is joined
    (λ none. c.grown-joined.ensures.same none ∙ c.roots.ensures) (ap block_view c.in-None.is) has.0 has.1 has.2)

pub returns-in-None-clause-values : goal.returns-in-None-clause-values
returns-in-None-clause-values g c = λ stands sound.
    let m = (g.V.View.view c.args.view.now).content in
    let p = view c.args.proof.now in
    let base = c.args.head.now.length in
    let to_is = c.length_with-to.ensures p m refl (sym c.requires.head) in
    let joined = subst (λ (n : ℕ). IsJoined base n c.grown-joined.result) (sym to_is) (c.grown-joined.ensures.joined p m refl (sym c.requires.head)) in
    let has_all = c.grown-joined.ensures.values p m refl (sym c.requires.head) sound c.roots.ensures in
    ok_more c.reach_none.result (HasReach p m) c.reach_none.ensures.reach
    (λ reach has. has_without p m base c.length_with-to.result c.grown-joined.result reach c.requires.head to_is joined
    (λ none. c.grown-joined.ensures.same none ∙ c.roots.ensures) (ap block_view c.in-None.is) has.0 has_all)
