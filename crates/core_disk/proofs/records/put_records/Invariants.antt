use Rattle.node_set.specs.Nodes.{values_of}
use Rattle.core_disk.proofs.RecordLemmas.{IsPut, AreAhead}
use Rattle.core_disk.proofs.records.put_records.Given as goal

-- those so far are in
abbrev pub invariant-loop : goal.invariant-loop
invariant-loop l = IsPut (values_of l.fn.nodes) l.records l.nodes l.ahead × AreAhead l.ahead l.counter l.end
