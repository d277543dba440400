use Rattle.std.proofs.Common.{◌≡◌, map, drop}
use Rattle.disk_trait.specs.Crash.{kept}
use Rattle.disk_trait.specs.Journal.{step_in}
use Rattle.disk_trait.proofs.replay.replay_rows.Given as goal

-- what is left of the rest is what is left of all
abbrev pub invariant-loop-i : goal.invariant-loop-i
invariant-loop-i l = record {
  rest : kept l.left (map (step_in l.payload) (drop l.i l.rows)) l.files.all ≡ kept l.fn.keep (map (step_in l.payload) l.rows) l.fn.files.all;
  room : l.files.room ≡ l.fn.files.room;
}
