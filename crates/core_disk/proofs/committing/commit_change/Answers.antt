use Rattle.std.proofs.Common.{ap, ◌∙◌}
use Rattle.core_disk.specs.Stored.{Stored}
use Rattle.core_disk.proofs.ChangeWrites.{change_refused, change_from}
use Rattle.core_disk.proofs.committing.commit_change.Goals as goal

pub returns-in-Err-clause-writes : goal.returns-in-Err-clause-writes
returns-in-Err-clause-writes g c = λ whole honest behind. rw (c.ready.ensures.disk) (change_refused whole _ _ _ _)

pub returns-in-Err-write_change-clause-writes : goal.returns-in-Err-write_change-clause-writes
returns-in-Err-write_change-clause-writes g c = λ whole honest behind.
    change_from g.D.Disk.disk whole _ _ _ _ _ _ (ap (λ (store : Stored _). store.disk) c.store.view_is ∙ c.ready.ensures.disk) honest
    (λ told. c.in-Err-write_change.ensures.writes whole told behind)

pub returns-clause-writes : goal.returns-clause-writes
returns-clause-writes g c = λ whole honest behind.
    rw (c.take_in.ensures.disk)
    (change_from g.D.Disk.disk whole _ _ _ _ _ _ (ap (λ (store : Stored _). store.disk) c.store.view_is ∙ c.ready.ensures.disk) honest
    (λ told. c.in-Ok-write_change.ensures.writes whole told behind))
