use Rattle.hypercore_cli.proofs.Numbers.{IsNumberSoFar}
use Rattle.hypercore_cli.proofs.words.number_of.Given as goal

abbrev pub invariant-loop-digit : goal.invariant-loop-digit
invariant-loop-digit l = IsNumberSoFar l.digits l.digit-index l.number
