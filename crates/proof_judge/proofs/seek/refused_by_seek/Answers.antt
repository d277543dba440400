use Rattle.std.proofs.Common.{◌≡◌, List, Some, ap, subst}
use Rattle.merkle_nodes.specs.declared.node.Node.{Node}
use Rattle.log_view.specs.Walks.{BeginsAt}
use Rattle.proof_form.specs.Proofs.{view as proof_view, block_view}
use Rattle.proof_check.specs.Meets.{seen}
use Rattle.proof_judge.specs.Seeking.{with_way}
use Rattle.proof_judge.proofs.Seeking.{seek_meets, seek_shown}
use Rattle.proof_judge.proofs.seek.refused_by_seek.Goals as goal

pub returns-in-Ok-clause-content : goal.returns-in-Ok-clause-content
returns-in-Ok-clause-content g c = λ shows closed.
    let s = (g.V.View.view c.args.view.now).source in
    let p = proof_view c.args.proof.now in
    let b = seen c.in-Some-block.block in
    let same : p.block ≡ Some b = ap block_view c.in-Some-block.is in
    let begins = subst (λ (ns : List Node). BeginsAt (with_way p ns s) b.index c.in-Ok.begin) c.as_slice.ensures.items (c.in-Ok.ensures.begins p same (λ shows. closed)) in
    seek_shown s p c.args.way.now c.in-Some.byte c.in-Ok.begin b _ c.in-Some.is same begins c.outside.ensures shows

pub returns-in-Ok-clause-given : goal.returns-in-Ok-clause-given
returns-in-Ok-clause-given g c = λ shut.
    let s = (g.V.View.view c.args.view.now).source in
    let p = proof_view c.args.proof.now in
    let b = seen c.in-Some-block.block in
    let same : p.block ≡ Some b = ap block_view c.in-Some-block.is in
    let begins = subst (λ (ns : List Node). BeginsAt (with_way p ns s) b.index c.in-Ok.begin) c.as_slice.ensures.items (c.in-Ok.ensures.begins p same shut) in
    seek_meets s p c.args.way.now c.in-Some.byte c.in-Ok.begin b _ c.in-Some.is same begins c.outside.ensures
