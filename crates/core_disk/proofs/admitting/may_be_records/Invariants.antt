use Rattle.core_disk.proofs.BytesBefore.{IsLooking}
use Rattle.core_disk.proofs.admitting.may_be_records.Given as goal

-- the nodes so far may be records, and what is left decides
abbrev pub invariant-loop-node : goal.invariant-loop-node
invariant-loop-node l = IsLooking l.nodes l.node-index l.least
