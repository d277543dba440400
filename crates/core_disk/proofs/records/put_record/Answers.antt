use Rattle.std.proofs.Common.{ap}
use Rattle.merkle_nodes.specs.Joined.{Values}
use Rattle.core_disk.proofs.records.put_record.Goals as goal

pub returns-clause-values : goal.returns-clause-values
returns-clause-values c = λ depth offset less. ap (λ (value : Values). value depth offset) c.insert.ensures.values
