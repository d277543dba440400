use Rattle.std.proofs.Common.{arith, ◌<◌}
use Rattle.region_pool.proofs.Moves.{gives_carried}
use Rattle.region_pool.proofs.steps.free_place.Goals as goal

pub store-requires : goal.store-requires
store-requires g c =
    let within : c.args.place < c.args.sheet.now.shared.table_id.slots = omega (arith, c.requires.even, c.requires.within) in
    (c.requires.here, c.requires.within, gives_carried _ _ _ _ _ c.requires.carried.0 within c.requires.place c.requires.carried.1)
