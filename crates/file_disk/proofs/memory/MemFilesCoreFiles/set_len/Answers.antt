use Rattle.std.proofs.Common.{refl}
use Rattle.disk_trait.specs.History.{disk_view_of}
use Rattle.file_disk.proofs.Counting.{counted_cuts}
use Rattle.file_disk.proofs.memory.MemFilesCoreFiles.set_len.Goals as goal

pub returns-in-Err-cut-clause-cuts : goal.returns-in-Err-cut-clause-cuts
returns-in-Err-cut-clause-cuts c = record {
  touches =
      let counted = counted_cuts _ _ refl (disk_view_of c.args.self.now.disk) (disk_view_of c.cut.new.self) 0 0 0 0 _ c.args.to (c.in-Err-cut.ensures.cuts refl) in
      counted.touches;
  ok = tt;
}
