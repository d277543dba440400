use Rattle.core_disk.proofs.NewStore.{new_store_stands}
use Rattle.core_disk.proofs.laws.a_new_store_stands.Goals as goal

pub returns : goal.returns
returns c accepts id areas is is_file = new_store_stands id areas is accepts is_file
