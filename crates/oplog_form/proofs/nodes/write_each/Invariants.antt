use Rattle.std.proofs.Common.{take, Ok}
use Rattle.std.specs.List.{flat_map}
use Rattle.compact_enc.specs.Written.{Writes}
use Rattle.oplog_form.specs.Nodes.{root_spelling}
use Rattle.oplog_form.proofs.nodes.write_each.Given as goal

-- the roots so far are written
abbrev pub invariant-loop-root : goal.invariant-loop-root
invariant-loop-root l = Writes {A = Unit {0}} (flat_map root_spelling (take l.root-index l.roots)) l.fn.to l.to (Ok tt)
