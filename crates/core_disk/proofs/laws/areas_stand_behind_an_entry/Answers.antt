use Rattle.core_disk.proofs.StandingLaws.{entry_stands}
use Rattle.core_disk.proofs.laws.areas_stand_behind_an_entry.Goals as goal

pub returns : goal.returns
returns c = entry_stands
