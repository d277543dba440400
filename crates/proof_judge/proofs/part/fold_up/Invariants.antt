use Rattle.proof_judge.specs.Meetings.{part_of}
use Rattle.proof_judge.proofs.PartLemmas.{IsFolded}
use Rattle.proof_judge.proofs.part.fold_up.Given as goal

abbrev pub invariant-loop-level : goal.invariant-loop-level
invariant-loop-level l = IsFolded (part_of l.part) l.level l.node l.way
