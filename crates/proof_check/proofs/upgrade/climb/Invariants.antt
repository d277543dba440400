use Rattle.std.proofs.Common.{◌≡◌}
use Rattle.proof_check.proofs.Climbing.{IsClimbing}
use Rattle.proof_check.proofs.upgrade.climb.Given as goal

abbrev pub invariant-loop-level : goal.invariant-loop-level
invariant-loop-level l = record {
  climbing : IsClimbing l.base l.to l.fn.joined.low l.level l.added l.fn.joined.roots l.joined.roots l.node l.used l.joined.lefts l.joined.rights;
  same : l.joined.low ≡ l.fn.joined.low;
}
