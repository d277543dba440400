use Rattle.std.proofs.Common.{refl, arith}
use Rattle.disk_trait.proofs.Calls.{write_failed, write_done}
use Rattle.disk_trait.proofs.memory.MemDiskDisk.write.Goals as goal

pub returns-in_default-clause-writes : goal.returns-in_default-clause-writes
returns-in_default-clause-writes c = λ honest. rw (← c.self.view_is) (write_failed _ _ _ _ _ _ _ _ refl c.self.invariant.before refl (omega arith) _ _ _ _)

pub returns-then-not-is_within-clause-writes : goal.returns-then-not-is_within-clause-writes
returns-then-not-is_within-clause-writes c = λ honest. rw (← c.self.view_is) (write_failed _ _ _ _ _ _ _ _ refl c.self.invariant.before refl (omega arith) _ _ _ _)

pub returns-then-is_err-clause-writes : goal.returns-then-is_err-clause-writes
returns-then-is_err-clause-writes c = λ honest. rw (← c.self.view_is) (write_failed _ _ _ _ _ _ _ _ refl c.self.invariant.before refl (omega arith) _ _ _ _)

pub returns-clause-writes : goal.returns-clause-writes
returns-clause-writes c = λ honest. rw (← c.self.view_is) (write_done _ _ _ _ _ _ _ _ refl c.self.invariant.before _ _ c.in-Some.ensures.number c.in-Some.ensures.next _ _ _ c.write.ensures.steps)
