use Rattle.std.proofs.Common.{◌≡◌, ◌≤◌, take, length}
use Rattle.core_forks.specs.Truncations.{fresh_roots}
use Rattle.log_change.proofs.roots.put_fresh.Given as goal

-- the fresh ones so far
abbrev pub invariant-loop-root : goal.invariant-loop-root
invariant-loop-root l = record { fresh : l.fresh ≡ fresh_roots l.before (take l.root-index l.roots); few : length l.fresh ≤ l.root-index }
