use Rattle.std.proofs.Common.{◌∙◌, arith, refl}
use Rattle.proof_form.specs.Proofs.{view}
use Rattle.proof_check.proofs.ByNumbers.{head_upgrade}
use Rattle.proof_judge.proofs.numbers.refused_by_head.Goals as goal

pub returns-in-Some : goal.returns-in-Some
returns-in-Some c = λ m fork blocks.
    c.refused_upgrade.ensures (view c.args.proof.now) m refl fork blocks
    ∙ head_upgrade (view c.args.proof.now) m c.in-Some.upgrade c.in-Some.is (omega (arith, fork, c.if-proof-head.false))
