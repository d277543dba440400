use Rattle.hypercore_cli.proofs.OpenedCores.{all_home}
use Rattle.hypercore_cli.proofs.run.run_command.Goals as goal

pub returns-in-Init-clause-runs : goal.returns-in-Init-clause-runs
returns-in-Init-clause-runs g c = rw c.in-Init.is (c.init.ensures.inits, c.init.ensures.rest)

pub returns-in-Append-clause-runs : goal.returns-in-Append-clause-runs
returns-in-Append-clause-runs g c = rw c.in-Append.is (c.append.ensures.extends, c.append.ensures.rest, c.append.ensures.mark)

pub returns-in-Get-clause-runs : goal.returns-in-Get-clause-runs
returns-in-Get-clause-runs g c = rw c.in-Get.is (c.get.ensures.gets, c.get.ensures.rest, c.get.ensures.mark, c.get.ensures.content)

pub returns-in-Get-clause-home : goal.returns-in-Get-clause-home
returns-in-Get-clause-home g c = all_home _ c.get.ensures.rest c.requires
