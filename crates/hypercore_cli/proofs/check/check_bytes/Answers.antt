use Rattle.hypercore_cli.proofs.BundleReads.{count_rose}
use Rattle.hypercore_cli.proofs.Verifiers.{IsProved-same}
use Rattle.hypercore_cli.proofs.check.check_bytes.Goals as goal

pub returns-in-Ok-write_all : goal.returns-in-Ok-write_all
returns-in-Ok-write_all g c = (
  c.in-Ok.opened,
  IsProved-same _ _ c.args.bytes.now c.in-Ok.opened c.auth.ensures c.in-Ok.ensures.checks c.in-Ok.ensures.sound,
  c.in-Ok-write_all.ensures.all.holds,
)

pub returns-in-Ok : goal.returns-in-Ok
returns-in-Ok g c = (
  count_rose _ _ c.in-Err.ensures.all.faults.one,
  c.in-Ok.opened,
  IsProved-same _ _ c.args.bytes.now c.in-Ok.opened c.auth.ensures c.in-Ok.ensures.checks c.in-Ok.ensures.sound,
  c.in-Err.ensures.all.holds,
)
