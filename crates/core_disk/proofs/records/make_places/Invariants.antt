use Rattle.std.proofs.Common.{◌≡◌}
use Rattle.node_set.specs.Nodes.{values_of}
use Rattle.core_disk.proofs.RecordLemmas.{Places, list_of, AreAhead}
use Rattle.core_disk.proofs.records.make_places.Given as goal

-- those so far have places, and no value changed
abbrev pub invariant-loop : goal.invariant-loop
invariant-loop l = Places l.nodes (list_of l.ahead) l.records × (values_of l.nodes ≡ values_of l.fn.nodes) × AreAhead l.ahead l.counter l.end
