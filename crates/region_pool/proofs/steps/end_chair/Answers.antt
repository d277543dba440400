use Rattle.region_pool.proofs.Moves.{ends}
use Rattle.region_pool.proofs.steps.end_chair.Goals as goal

pub join_seat-requires : goal.join_seat-requires
join_seat-requires g c = (c.requires.here, c.requires.there, c.requires.bare.1, c.requires.some, ends _ _ _ _ c.requires.empty c.requires.bare.0)
