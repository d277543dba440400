use Rattle.core_disk.proofs.LaidLemmas.{usable_in}
use Rattle.core_disk.proofs.StoreLemmas.{standing_kept}
use Rattle.core_disk.proofs.nodes.StoredNodesView.head.Goals as goal

pub returns-clause-usable : goal.returns-clause-usable
returns-clause-usable g c = usable_in _ _ c.known.ensures.kept c.known.ensures.rooted

pub returns-clause-sound : goal.returns-clause-sound
returns-clause-sound g c = let store = c.args.self.now.store.now in standing_kept (g.D.Disk.disk store.disk) store.hand c.known.ensures.kept
