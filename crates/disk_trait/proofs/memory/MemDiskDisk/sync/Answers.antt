use Rattle.std.proofs.Common.{refl}
use Rattle.disk_trait.proofs.Calls.{sync_done}
use Rattle.disk_trait.proofs.memory.MemDiskDisk.sync.Goals as goal

pub returns-clause-syncs : goal.returns-clause-syncs
returns-clause-syncs c = λ honest. rw (← c.self.view_is) (sync_done _ _ _ _ _ _ _ _ refl c.self.invariant.before _ _ c.in-Some.ensures.number c.in-Some.ensures.next _ c.sync.ensures.steps)
