use Rattle.std.proofs.Common.{IsTrue, Ok}
use Rattle.core_disk.specs.Parts.{AreCleared, KeepsCounts}
use Rattle.core_disk.proofs.parts.clear_rest.Given as goal

-- the areas so far are empty and synced
abbrev pub invariant-loop-turn : goal.invariant-loop-turn
invariant-loop-turn g l =
    (IsTrue (g.D.Disk.disk l.fn.disk).honest → AreCleared l.turn (g.D.Disk.disk l.disk))
    × KeepsCounts {T = Unit {0}} (g.D.Disk.disk l.fn.disk) (g.D.Disk.disk l.disk) (Ok tt)
