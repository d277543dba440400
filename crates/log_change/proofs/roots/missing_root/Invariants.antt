use Rattle.std.proofs.Common.{◌≡◌, drop}
use Rattle.flat_tree.specs.Roots.{full_roots_of}
use Rattle.node_set.specs.Closure.{in_closure}
use Rattle.node_set.specs.Contents.{held}
use Rattle.core_forks.specs.Refusals.{first_missing}
use Rattle.log_change.proofs.roots.missing_root.Given as goal

-- none is missing so far
abbrev pub invariant-loop-at : goal.invariant-loop-at
invariant-loop-at g l =
    let m = (g.V.View.view l.view).source.content in
    first_missing (in_closure m.length (held m)) (drop l.at (full_roots_of l.to)) ≡ first_missing (in_closure m.length (held m)) (full_roots_of l.to)
