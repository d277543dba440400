use Rattle.hypercore_cli.proofs.CommitLaws.{Commits-appended, Commits-failed}
use Rattle.hypercore_cli.proofs.batches.commit.Goals as goal

pub returns-in-Ok : goal.returns-in-Ok
returns-in-Ok g c =
    Commits-appended _ _ _ _ _ c.in-Ok.field-0 (g.met.D.Disk.may_stay c.args.core.now.store.disk)
    (record { acts = c.in-Ok.ensures.acts; change = c.in-Ok.ensures.disk })

pub returns-in-Err : goal.returns-in-Err
returns-in-Err g c =
    Commits-failed _ _ _ _ _ c.in-Err.fault (g.met.D.Disk.may_stay c.args.core.now.store.disk)
    (record { acts = c.in-Err.ensures.acts; change = c.in-Err.ensures.disk })
