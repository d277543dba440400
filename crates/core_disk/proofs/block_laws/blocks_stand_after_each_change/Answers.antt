use Rattle.node_set.specs.Changes.{truncate_content, clear_content, upgrade_content}
use Rattle.core_forks.specs.Reorganise.{reorganise_content}
use Rattle.core_disk.proofs.BlocksStay.{blocks_stay, truncate_stays, clear_stays, upgrade_stays, fetch_has}
use Rattle.core_disk.proofs.AppendedBlocks.{append_has}
use Rattle.core_disk.proofs.ReorganisedBlocks.{reorganise_stays}
use Rattle.core_disk.proofs.block_laws.blocks_stand_after_each_change.Goals as goal

pub returns-clause-append : goal.returns-clause-append
returns-clause-append c m more signature area sound sound_after has = append_has m more signature sound sound_after area has

pub returns-clause-truncate : goal.returns-clause-truncate
returns-clause-truncate c m to fork signature area sound has =
    blocks_stay area m (truncate_content to fork signature m) (truncate_stays m to fork signature sound) has

pub returns-clause-clear : goal.returns-clause-clear
returns-clause-clear c m from to area sound has = blocks_stay area m (clear_content from to m) (clear_stays m from to sound) has

pub returns-clause-upgrade : goal.returns-clause-upgrade
returns-clause-upgrade c m to parts signature area sound longer has =
    blocks_stay area m (upgrade_content to parts signature m) (upgrade_stays m to parts signature sound longer) has

pub returns-clause-fetch : goal.returns-clause-fetch
returns-clause-fetch c m index bytes path area sound sound_after has = fetch_has m index bytes path sound sound_after area has

pub returns-clause-reorganise : goal.returns-clause-reorganise
returns-clause-reorganise c m fork to twigs signature area sound has =
    blocks_stay area m (reorganise_content fork to twigs signature m) (reorganise_stays m fork to twigs signature sound) has
