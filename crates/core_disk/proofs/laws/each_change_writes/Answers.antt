use Rattle.core_disk.proofs.NewNodes.{append_new, truncate_new, clear_new, upgrade_new, fetch_new}
use Rattle.core_disk.proofs.laws.each_change_writes.Goals as goal

pub returns-clause-append : goal.returns-clause-append
returns-clause-append c m more signature depth offset sound sound_after = append_new m more signature sound sound_after depth offset

pub returns-clause-truncate : goal.returns-clause-truncate
returns-clause-truncate c m to fork signature depth offset sound_after = truncate_new m to fork signature sound_after depth offset

pub returns-clause-clear : goal.returns-clause-clear
returns-clause-clear c m from to depth offset sound_after = clear_new m from to sound_after depth offset

pub returns-clause-upgrade : goal.returns-clause-upgrade
returns-clause-upgrade c m to parts signature depth offset longer sound sound_after = upgrade_new m to parts signature longer sound sound_after depth offset

pub returns-clause-fetch : goal.returns-clause-fetch
returns-clause-fetch c m index bytes path depth offset sound_after = fetch_new m index bytes path sound_after depth offset
