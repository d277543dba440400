use Rattle.std.proofs.Common.{refl}
use Rattle.disk_trait.specs.History.{disk_view_of}
use Rattle.file_disk.specs.Laws.{counted_keeps}
use Rattle.file_disk.proofs.Counting.{counted_syncs}
use Rattle.file_disk.proofs.memory.MemFilesCoreFiles.sync_data.Goals as goal

pub returns-in-Ok-sync-clause-syncs : goal.returns-in-Ok-sync-clause-syncs
returns-in-Ok-sync-clause-syncs c =
    counted_syncs _ _ refl (disk_view_of c.args.self.now.disk) (disk_view_of c.sync.new.self) 0 0 0 0 _ (c.in-Ok-sync.ensures.syncs refl)

pub returns-in-Err-sync-clause-syncs : goal.returns-in-Err-sync-clause-syncs
returns-in-Err-sync-clause-syncs c = record {
  keeps = counted_keeps (disk_view_of c.args.self.now.disk) (disk_view_of c.sync.new.self) 0 0 0 0 (c.in-Err-sync.ensures.syncs refl).keeps;
  ok = tt;
}
