use Rattle.disk_trait.proofs.CrashImages.{crash_is_image}
use Rattle.disk_trait.proofs.memory.MemDisk.crash.Goals as goal

pub returns-in-Ok-clause-image : goal.returns-in-Ok-clause-image
returns-in-Ok-clause-image c = rw c.in-Ok.ensures (crash_is_image c.args.self.now c.args.moment c.args.keep)
