use Rattle.std.proofs.Common.{◌≡◌}
use Rattle.flat_tree.specs.Subtrees.{Subtree}
use Rattle.root_stack.specs.Stack.{IsNext}
use Rattle.root_stack.proofs.Climb.{IsUnderWay}
use Rattle.root_stack.proofs.stack.push.Given as goal

abbrev pub invariant-loop : goal.invariant-loop
invariant-loop g l = record {
  room : g.S.NodeSink.room l.made ≡ g.S.NodeSink.room l.fn.made;
  climb : (tree : Subtree) → IsNext tree l.fn.node l.fn.roots
      → IsUnderWay tree l.counter l.fn.node l.last l.fn.roots l.roots (g.S.NodeSink.nodes l.fn.made) (g.S.NodeSink.nodes l.made);
}
