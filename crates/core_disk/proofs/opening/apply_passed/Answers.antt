use Rattle.std.proofs.Common.{◌+◌}
use Rattle.oplog_file.specs.declared.layout.TheConstants.{ENTRIES_AT}
use Rattle.core_disk.proofs.FitLaws.{read_fits}
use Rattle.core_disk.proofs.opening.apply_passed.Goals as goal

pub apply-requires : goal.apply-requires
apply-requires c = record { fits = read_fits (ENTRIES_AT + c.args.file.now.last) c.args.file.now.payload c.in-Ok.entry c.in-Ok.ensures }
