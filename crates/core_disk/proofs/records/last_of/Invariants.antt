use Rattle.core_disk.proofs.RecordLemmas.{IsLast, AreAhead}
use Rattle.core_disk.proofs.records.last_of.Given as goal

-- what is ahead leads to what all lead to
abbrev pub invariant-loop : goal.invariant-loop
invariant-loop l = IsLast l.records l.index l.fn.before l.ahead l.found × AreAhead l.ahead l.counter l.end
