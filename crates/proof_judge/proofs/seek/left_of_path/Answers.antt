use Rattle.std.proofs.Common.{◌≡◌, Some, IsTrue, rules, sym, ap, subst, arith}
use Rattle.flat_tree.specs.Roots.{depth_over}
use Rattle.node_set.specs.Contents.{held}
use Rattle.node_set.specs.Whole.{IsClosed}
use Rattle.log_view.specs.Views.{Source}
use Rattle.log_view.specs.Walks.{IsLeftAt}
use Rattle.log_view.proofs.LeftSums.{left_none, left_more, left_all}
use Rattle.proof_form.specs.Proofs.{Proof}
use Rattle.proof_check.specs.Meets.{seen}
use Rattle.proof_judge.specs.PartsMet.{IsBlockWay}
use Rattle.proof_judge.specs.Seeking.{with_way}
use Rattle.proof_judge.proofs.seek.left_of_path.Goals as goal

pub loop-level-init : goal.loop-level-init
loop-level-init g c = record { keeps = search rules; left = λ p same shut. left_none _ _; most = omega arith }

pub left_at-requires-clause-way : goal.left_at-requires-clause-way
left_at-requires-clause-way g c =
    subst (λ (t : Source). IsBlockWay t.content.length (held t.content) (Some (seen c.args.block.now)) c.args.way.now) (sym c.loop-level.invariant.keeps.source) c.requires.way

pub left_at-requires-clause-below : goal.left_at-requires-clause-below
left_at-requires-clause-below g c =
    let same = ap (λ (t : Source). depth_over t.content.length c.args.block.now.index) c.loop-level.invariant.keeps.source in
    omega (arith, same, c.requires.levels, c.loop-level-test.true)

pub loop-level-preserved : goal.loop-level-preserved
loop-level-preserved g c =
    let so_far = c.loop-level.invariant in
    let b = c.args.block.now in
    let step = subst (λ (t : Source). (p : Proof) → p.block ≡ Some (seen b) → (IsTrue t.shows → IsClosed t.content.length t.content.block t.content.node)
    → IsLeftAt (with_way p c.args.way.now t) b.index c.loop-level.level c.in-Ok.left) so_far.keeps.source c.in-Ok.ensures.left in
    record {
      keeps = search rules;
      left = λ p same shut. left_more _ _ _ _ _ (so_far.left p same shut) (step p same shut);
      most = omega (arith, so_far.most, c.in-Ok.ensures.most);
    }

pub returns-clause-left : goal.returns-clause-left
returns-clause-left g c = λ p same shut. left_all _ _ _ _ _ (omega arith) (c.loop-level.invariant.left p same shut)
