use Rattle.core_disk.proofs.BlockPlaces.{offset_is_sum, ends_within, ends_before}
use Rattle.core_disk.proofs.block_laws.held_blocks_stand_apart.Goals as goal

pub returns-clause-sum : goal.returns-clause-sum
returns-clause-sum c = offset_is_sum

pub returns-clause-before : goal.returns-clause-before
returns-clause-before c m index later bytes sound there before less = ends_before m sound index bytes there later before less

pub returns-clause-within : goal.returns-clause-within
returns-clause-within c m index bytes sound there = ends_within m sound index bytes there
