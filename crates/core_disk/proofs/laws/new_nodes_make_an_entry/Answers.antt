use Rattle.core_disk.proofs.NewNodes.{exact_entry}
use Rattle.core_disk.proofs.laws.new_nodes_make_an_entry.Goals as goal

pub returns : goal.returns
returns c = exact_entry
