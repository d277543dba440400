use Rattle.std.proofs.Common.{take}
use Rattle.flat_tree.specs.Roots.{full_roots_of}
use Rattle.node_set.specs.Nodes.{with_nodes}
use Rattle.node_set.proofs.TableRoots.{IsRootsOf}
use Rattle.core_disk.specs.Opened.{values_in}
use Rattle.core_disk.proofs.records.known_roots.Given as goal

-- the roots so far are known
abbrev pub invariant-loop-place : goal.invariant-loop-place
invariant-loop-place l = IsRootsOf (with_nodes (values_in l.roots) l.records) (take l.place (full_roots_of l.length)) l.after
