use Rattle.hypercore_cli.proofs.Digits.{HasDigits}
use Rattle.hypercore_cli.proofs.line.digits_of.Given as goal

abbrev pub invariant-loop-rest : goal.invariant-loop-rest
invariant-loop-rest l = HasDigits l.fn.number l.digits l.first l.rest

abbrev pub decreases-loop-rest : goal.decreases-loop-rest
decreases-loop-rest l = l.first
