use Rattle.node_set.specs.Changes.{truncate_content, clear_content, upgrade_content}
use Rattle.core_forks.specs.Reorganise.{reorganise_content}
use Rattle.core_disk.proofs.BlocksStay.{offset_stays, truncate_stays, clear_stays, upgrade_stays, append_offset, fetch_offset}
use Rattle.core_disk.proofs.AppendedBlocks.{new_offset}
use Rattle.core_disk.proofs.ReorganisedBlocks.{reorganise_stays}
use Rattle.core_disk.proofs.block_laws.offsets_stay_under_each_change.Goals as goal

pub returns-clause-append : goal.returns-clause-append
returns-clause-append c m more signature index sound is_held = append_offset m more signature sound index is_held

pub returns-clause-appended : goal.returns-clause-appended
returns-clause-appended c m more signature place sound sound_after less = new_offset m more signature sound sound_after place less

pub returns-clause-truncate : goal.returns-clause-truncate
returns-clause-truncate c m to fork signature index sound is_held =
    offset_stays m (truncate_content to fork signature m) (truncate_stays m to fork signature sound) index is_held

pub returns-clause-clear : goal.returns-clause-clear
returns-clause-clear c m from to index sound is_held = offset_stays m (clear_content from to m) (clear_stays m from to sound) index is_held

pub returns-clause-upgrade : goal.returns-clause-upgrade
returns-clause-upgrade c m to parts signature index sound longer is_held =
    offset_stays m (upgrade_content to parts signature m) (upgrade_stays m to parts signature sound longer) index is_held

pub returns-clause-fetch : goal.returns-clause-fetch
returns-clause-fetch c m index bytes path other sound is_held = fetch_offset m index bytes path sound other is_held

pub returns-clause-reorganise : goal.returns-clause-reorganise
returns-clause-reorganise c m fork to twigs signature index sound is_held =
    offset_stays m (reorganise_content fork to twigs signature m) (reorganise_stays m fork to twigs signature sound) index is_held
