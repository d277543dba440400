use Rattle.std.proofs.Common.{IsTrue}
use Rattle.disk_trait.specs.declared.disk.Area.TheVariants.{Oplog}
use Rattle.core_disk.specs.InHand.{opened_of}
use Rattle.core_disk.specs.Copying.{HasConsulted}
use Rattle.core_disk.proofs.ReplayLemmas.{HasReplayed}
use Rattle.core_disk.proofs.opening.replay_all.Given as goal

-- the entries so far are done
abbrev pub invariant-loop : goal.invariant-loop
invariant-loop g l =
    (IsTrue (g.D.Disk.disk l.fn.disk).honest
    → HasReplayed ((g.D.Disk.disk l.fn.disk).reads Oplog) l.fn.file.epoch (opened_of l.fn.state) l.file (opened_of l.state) l.counter)
    × HasConsulted (g.D.Disk.disk l.fn.disk) (g.D.Disk.disk l.disk)
