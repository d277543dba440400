use Rattle.hypercore_cli.proofs.AppendLaws.{AppendsTo-no_memory}
use Rattle.hypercore_cli.proofs.batches.append_lines.Goals as goal

pub returns-in-Err : goal.returns-in-Err
returns-in-Err g c = AppendsTo-no_memory _ _ _ _
