use Rattle.std.proofs.Common.{arith, ◌<◌, ◌≢◌}
use Rattle.region_pool.proofs.Moves.{tries}
use Rattle.region_pool.proofs.steps.try_place.Goals as goal

pub compare_exchange-requires : goal.compare_exchange-requires
compare_exchange-requires g c =
    let within : c.args.place < c.args.sheet.now.shared.table_id.slots = omega (arith, c.requires.even, c.requires.within) in
    let some_part : c.args.chair.now.me.0.parts ≢ 0 = λ none. grind (arith, none, c.requires.part) in
    (c.requires.here, c.requires.within, tries _ _ _ _ _ within c.requires.empty some_part)
