use Rattle.std.proofs.Common.{◌≡◌, take}
use Rattle.std.specs.Prelude.{vec_capacity}
use Rattle.std.specs.List.{AllByRecursion}
use Rattle.core_disk.specs.Planning.{HasHash}
use Rattle.core_disk.proofs.putting.put_copies.Given as goal

-- the nodes so far were put in
abbrev pub invariant-loop-node : goal.invariant-loop-node
invariant-loop-node l = record {
  items : l.to.items ≡ take l.node-index l.from;
  hashes : AllByRecursion HasHash l.to.items;
  room : vec_capacity l.to ≡ vec_capacity l.fn.to;
}
