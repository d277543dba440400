use Rattle.std.proofs.Common.{arith}
use Rattle.region_pool.proofs.Moves.{opens}
use Rattle.region_pool.proofs.steps.open_chair.Goals as goal

pub split_seat-requires : goal.split_seat-requires
split_seat-requires g c = (c.requires.here, c.requires.some, opens _ _ c.requires.empty (λ none. grind (arith, none, c.requires.part)))
