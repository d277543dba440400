-- When a truncation or a clearing is refused, and why: the first of its reasons that holds.
use Rattle.std.specs.Prelude.{ℕ, Bool, ◌&&◌, not, List, [], ◌∷◌, Option, Some, None, nat_le, nat_lt, if◌then◌else◌}
use Rattle.flat_tree.specs.Subtrees.{Subtree, number}
use Rattle.flat_tree.specs.Roots.{full_roots_of}
use Rattle.flat_tree.specs.declared.limits.TheConstants.{MAX_FORK}
use Rattle.merkle_nodes.specs.declared.limit.What.TheVariants.{Fork}
use Rattle.node_set.specs.declared.fault.CoreFault.{CoreFault}
use Rattle.node_set.specs.declared.fault.CoreFault.TheVariants.{OutOfRange, Limit, OldFork, NoNode}
use Rattle.node_set.specs.Contents.{Content, held}
use Rattle.node_set.specs.Closure.{in_closure}
pub use Rattle.node_set.specs.Refuses.{or_else, refuse_if}

-- the first of some subtrees whose node isn't stored
unfoldable pub first_missing : (ℕ → ℕ → Bool) → List Subtree → Option CoreFault
first_missing is_stored [] = None
first_missing is_stored (tree ∷ trees) =
    let later = first_missing is_stored trees in
    if is_stored tree.depth tree.offset then later else Some (NoNode (number tree.depth tree.offset))

-- why a truncation to a length under a fork is refused
abbrev pub truncate_refusal : Content → ℕ → ℕ → Option CoreFault
truncate_refusal m to fork =
    or_else (refuse_if (nat_lt m.length to) (OutOfRange m.length))
    (or_else (refuse_if (nat_lt MAX_FORK fork) (Limit Fork MAX_FORK))
    (or_else (refuse_if (nat_le fork m.fork) (OldFork m.fork))
    (first_missing (in_closure m.length (held m)) (full_roots_of to))))

-- why a clearing of a range is refused
abbrev pub clear_refusal : Content → ℕ → ℕ → Option CoreFault
clear_refusal m from to = refuse_if (not (nat_le from to && nat_le to m.length)) (OutOfRange m.length)
