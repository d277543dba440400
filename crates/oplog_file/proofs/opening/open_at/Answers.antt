use Rattle.std.proofs.Common.{rules}
use Rattle.disk_trait.specs.declared.disk.Area.TheVariants.{Oplog}
use Rattle.oplog_file.proofs.OpenLaws.{consults_memory, opens_memory}
use Rattle.oplog_file.proofs.opening.open_at.Goals as goal

pub returns-in_err-frame-clause-opens : goal.returns-in_err-frame-clause-opens
returns-in_err-frame-clause-opens g c honest = opens_memory ((g.D.Disk.disk c.args.disk.now).reads Oplog) c.from_residual.result (search rules)

pub returns-in_err-frame-clause-consults : goal.returns-in_err-frame-clause-consults
returns-in_err-frame-clause-consults g c = consults_memory (g.D.Disk.disk c.args.disk.now) c.from_residual.result (search rules)
