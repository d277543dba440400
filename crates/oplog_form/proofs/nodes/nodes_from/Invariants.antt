use Rattle.std.proofs.Common.{◌≡◌, ◌≤◌, length, drop}
use Rattle.oplog_form.specs.Nodes.{nodes_in}
use Rattle.oplog_form.proofs.NodeLoops.{with_front}
use Rattle.oplog_form.proofs.nodes.nodes_from.Given as goal

-- the nodes so far, with those of the numbers left, are all
abbrev pub invariant-loop-index : goal.invariant-loop-index
invariant-loop-index l = (with_front l.nodes (nodes_in (drop l.index-index l.numbers) l.from) ≡ nodes_in l.numbers l.fn.from) × (length l.nodes ≤ l.index-index)
