use Rattle.node_set.specs.Contents.{held}
use Rattle.node_set.specs.Walks.{KeepsView}
use Rattle.proof_check.specs.Meets.{NoneBelow}
use Rattle.proof_check.proofs.path.met_below.Given as goal

-- the view stays, and no node so far is to be stored
abbrev pub invariant-loop-level : goal.invariant-loop-level
invariant-loop-level g l =
    KeepsView (g.V.View.view l.fn.view) (g.V.View.view l.view)
    × (let m = (g.V.View.view l.fn.view).content in NoneBelow m.length (held m) l.index l.level)
