use Rattle.std.proofs.Common.{◌≡◌, replicate, length, rules}
use Rattle.region_pool.proofs.Moves.{begins}
use Rattle.region_pool.proofs.opening.lay.Goals as goal

pub new-requires : goal.new-requires
new-requires g c =
    let words : c.as_slice.result.now ≡ replicate (length c.args.regions.items) 0 = search rules in
    rw (words, c.in_ok-slots.ensures) (begins c.args.regions.items)
