use Rattle.std.proofs.Common.{◌≡◌}
use Rattle.root_stack.proofs.Covering.{IsPushing}
use Rattle.root_stack.proofs.cover.push_cover.Given as goal

abbrev pub invariant-loop-place : goal.invariant-loop-place
invariant-loop-place g l = record {
  room : g.S.NodeSink.room l.made ≡ g.S.NodeSink.room l.fn.made;
  pushing : IsPushing l.start l.end l.twigs l.place l.fn.roots l.roots (g.S.NodeSink.nodes l.fn.made) (g.S.NodeSink.nodes l.made);
}
