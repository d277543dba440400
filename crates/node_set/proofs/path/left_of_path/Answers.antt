use Rattle.std.proofs.Common.{IsTrue, ◌/◌, ◌^◌, rules, sym, subst, ap, ◌∙◌, arith}
use Rattle.node_set.specs.Contents.{Content}
use Rattle.node_set.specs.Offsets.{left_step}
use Rattle.node_set.proofs.OffsetSums.{left_all, left_next}
use Rattle.node_set.proofs.path.left_of_path.Goals as goal

pub loop-level-preserved : goal.loop-level-preserved
loop-level-preserved g c =
    let keeps = c.loop-level.invariant.0.keeps in (
      search rules,
      (λ stands.
          let still = subst IsTrue (sym keeps.stands) stands in
          let level = c.loop-level.level in
          let here = c.in-Ok.ensures.bytes still ∙ ap (λ (m : Content). left_step m.node level (c.args.index / 2 ^ level)) keeps.content in
          left_next _ _ _ _ _ _ c.loop-level-test.true (c.loop-level.invariant.1 stands) here),
      omega (arith, c.loop-level.invariant.2, c.in-Ok.ensures.most),
    )

pub returns-clause-bytes : goal.returns-clause-bytes
returns-clause-bytes g c = λ stands. left_all _ _ _ _ _ c.loop-level-test.false (c.loop-level.invariant.1 stands)
