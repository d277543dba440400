use Rattle.std.proofs.Common.{◌≡◌, ◌≤◌, ℕ, List, length, take}
use Rattle.disk_trait.specs.History.{until}
use Rattle.disk_trait.specs.Journal.{steps_in}
use Rattle.disk_trait.proofs.replay.rows_before.Given as goal

abbrev pub invariant-loop-count : goal.invariant-loop-count
invariant-loop-count l = record {
  within : l.count ≤ length l.rows;
  rest : (payload : List ℕ) → until l.call (steps_in payload l.rows) ≡ until l.call (steps_in payload (take l.count l.rows));
}

abbrev pub decreases-loop-count : goal.decreases-loop-count
decreases-loop-count l = l.count
