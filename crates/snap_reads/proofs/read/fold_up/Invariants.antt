use Rattle.log_view.specs.Views.{Keeps}
use Rattle.core_snap.proofs.FoldLemmas.{HasFolded}
use Rattle.snap_reads.specs.Reads.{GivesTrail}
use Rattle.snap_reads.proofs.read.fold_up.Given as goal

-- the siblings so far are folded, and are those that the view gave
abbrev pub invariant-loop-level : goal.invariant-loop-level
invariant-loop-level g l = record {
  keeps : Keeps (g.V.View.view l.fn.view) (g.V.View.view l.view);
  folded : HasFolded l.leaf l.top l.index l.level l.trail;
  gives : GivesTrail (g.V.View.view l.fn.view).source l.index l.level l.trail;
}
