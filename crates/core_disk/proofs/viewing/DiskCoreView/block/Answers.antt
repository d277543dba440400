use Rattle.std.proofs.Common.{refl, subst}
use Rattle.core_disk.specs.Cored.{Cored}
use Rattle.core_disk.specs.Reading.{OnlyReads}
use Rattle.core_disk.proofs.OnlyReading.{cored, only_read}
use Rattle.core_disk.proofs.viewing.DiskCoreView.block.Goals as goal

pub returns-clause-leaves : goal.returns-clause-leaves
returns-clause-leaves g c =
    let inside = c.self.inside in
    let now = cored c.block.new.self inside.file inside.auth inside.broken in
    subst (λ (core : Cored _ _). OnlyReads g.D.Disk.disk core now) c.self.view_is
    (only_read g.D.Disk.disk g.met.D.Disk.rests (cored inside.store inside.file inside.auth inside.broken) now refl refl refl c.block.ensures.keeps c.block.ensures.cause.faults)
