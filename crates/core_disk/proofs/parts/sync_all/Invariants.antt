use Rattle.std.proofs.Common.{IsTrue}
use Rattle.core_disk.specs.Copying.{HasConsulted}
use Rattle.core_disk.specs.Parts.{AreSynced}
use Rattle.core_disk.proofs.parts.sync_all.Given as goal

-- the areas so far are synced
abbrev pub invariant-loop-turn : goal.invariant-loop-turn
invariant-loop-turn g l =
    (IsTrue (g.D.Disk.disk l.fn.disk).honest → AreSynced l.turn (g.D.Disk.disk l.disk)) × HasConsulted (g.D.Disk.disk l.fn.disk) (g.D.Disk.disk l.disk)
