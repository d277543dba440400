use Rattle.core_disk.proofs.BlocksStay.{append_torn, fetch_torn, upgrade_fetch_torn}
use Rattle.core_disk.proofs.block_laws.a_torn_write_leaves_held_blocks.Goals as goal

pub returns-clause-append : goal.returns-clause-append
returns-clause-append c m n area now sound has torn = append_torn m n area now sound has torn

pub returns-clause-fetch : goal.returns-clause-fetch
returns-clause-fetch c m index bytes path area now sound sound_after unheld has torn =
    fetch_torn m index bytes path sound sound_after area now unheld has torn

pub returns-clause-upgrade_fetch : goal.returns-clause-upgrade_fetch
returns-clause-upgrade_fetch c m to parts signature index bytes path area now sound longer sound_up sound_after unheld has torn =
    upgrade_fetch_torn m to parts signature index bytes path sound longer sound_up sound_after area now unheld has torn
