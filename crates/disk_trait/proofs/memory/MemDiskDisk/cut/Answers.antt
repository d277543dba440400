use Rattle.std.proofs.Common.{refl, arith}
use Rattle.disk_trait.proofs.Calls.{cut_failed, cut_done}
use Rattle.disk_trait.proofs.memory.MemDiskDisk.cut.Goals as goal

pub returns-in_default-clause-cuts : goal.returns-in_default-clause-cuts
returns-in_default-clause-cuts c = λ honest. rw (← c.self.view_is) (cut_failed _ _ _ _ _ _ _ _ refl c.self.invariant.before refl (omega arith) _ _ _)

pub returns-then-not-has_room-clause-cuts : goal.returns-then-not-has_room-clause-cuts
returns-then-not-has_room-clause-cuts c = λ honest. rw (← c.self.view_is) (cut_failed _ _ _ _ _ _ _ _ refl c.self.invariant.before refl (omega arith) _ _ _)

pub returns-clause-cuts : goal.returns-clause-cuts
returns-clause-cuts c = λ honest. rw (← c.self.view_is) (cut_done _ _ _ _ _ _ _ _ refl c.self.invariant.before _ _ c.in-Some.ensures.number c.in-Some.ensures.next _ _ c.cut-2.ensures.steps)
