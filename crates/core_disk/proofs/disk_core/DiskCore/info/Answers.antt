use Rattle.core_disk.proofs.LaidLemmas.{usable_in}
use Rattle.core_disk.proofs.CoredLemmas.{bounded, stands_told}
use Rattle.core_disk.proofs.disk_core.DiskCore.info.Goals as goal

pub returns-clause-usable : goal.returns-clause-usable
returns-clause-usable g c = usable_in _ _ c.failed_at.ensures.kept c.failed_at.ensures.rooted

pub returns-clause-whole : goal.returns-clause-whole
returns-clause-whole g c = λ stands.
    let now = c.args.self.now in
    let disk = g.D.Disk.disk now.store.disk in
    (stands_told (g.A.Verifier.accepts now.auth) disk now.store.hand now.broken (bounded disk now.store.hand c.failed_at.ensures.kept) stands).whole
