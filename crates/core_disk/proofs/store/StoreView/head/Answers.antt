use Rattle.core_disk.proofs.LaidLemmas.{usable_in}
use Rattle.core_disk.proofs.StoreLemmas.{standing_kept}
use Rattle.core_disk.proofs.store.StoreView.head.Goals as goal

pub returns-clause-usable : goal.returns-clause-usable
returns-clause-usable g c = usable_in _ _ c.known.ensures.kept c.known.ensures.rooted

pub returns-clause-sound : goal.returns-clause-sound
returns-clause-sound g c = standing_kept (g.D.Disk.disk c.args.self.now.disk) c.args.self.now.hand c.known.ensures.kept
