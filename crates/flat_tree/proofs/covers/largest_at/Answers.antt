use Rattle.std.proofs.Common.{refl, arith}
use Rattle.std.specs.Int.{trailing_zeros, w64}
use Rattle.flat_tree.proofs.CoverLemmas.{IsLargest, largest-aligned, largest-room, largest-code}
use Rattle.flat_tree.proofs.covers.largest_at.Goals as goal
use Rattle.flat_tree.proofs.covers.largest_at.Goals.{Then-aligned-room}

aligned : (c : Then-aligned-room) → IsLargest (trailing_zeros w64 c.args.from) c.args.from c.args.to
aligned c =
    largest-aligned (trailing_zeros w64 c.args.from) c.ilog2-room.result c.args.from c.args.to (omega arith) c.requires.some refl
    c.if-aligned-room.true c.ilog2-room.ensures.bound c.ilog2-room.ensures.power_le

pub returns-then-aligned-room-clause-largest : goal.returns-then-aligned-room-clause-largest
returns-then-aligned-room-clause-largest c = largest-code _ _ _ c.requires.some (aligned c)

pub returns-then-aligned-room-clause-within : goal.returns-then-aligned-room-clause-within
returns-then-aligned-room-clause-within c = (aligned c).ends

pub returns-else-aligned-room-clause-largest : goal.returns-else-aligned-room-clause-largest
returns-else-aligned-room-clause-largest c =
    largest-code _ _ _ c.requires.some
    (largest-room c.ilog2-room.result c.args.from c.args.to (omega arith) c.requires.some c.if-aligned-room.false
    c.ilog2-room.ensures.power_le c.ilog2-room.ensures.next_power_gt)
