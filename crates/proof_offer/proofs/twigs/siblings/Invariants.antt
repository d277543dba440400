use Rattle.proof_offer.proofs.Siblings.{IsClimbed}
use Rattle.proof_offer.proofs.twigs.siblings.Given as goal

-- the path so far is climbed
abbrev pub invariant-loop : goal.invariant-loop
invariant-loop l = IsClimbed l.fn.node l.over l.counter l.numbers
