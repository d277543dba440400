use Rattle.flat_tree.specs.Covers.{cover_of}
use Rattle.proof_make.proofs.Covers.{AreRead}
use Rattle.proof_make.proofs.upgrade.twigs_of.Given as goal

-- the subtrees so far are read
abbrev pub invariant-loop-place : goal.invariant-loop-place
invariant-loop-place g l = AreRead (g.V.View.view l.fn.view) (g.V.View.view l.view) (cover_of l.start l.end) l.place l.twigs
