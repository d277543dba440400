use Rattle.std.proofs.Common.{◌≡◌, ◌+◌, length, All}
use Rattle.region_pool.specs.Seats.{IsFirst, IsIdle}
use Rattle.region_pool.proofs.close.gather.Given as goal

abbrev pub invariant-loop-seat : goal.invariant-loop-seat
invariant-loop-seat g l = record {
  first : IsFirst l.sheet.shared.table_id l.first l.first.me.0.parts;
  idle : All (IsIdle l.sheet.shared.table_id) l.seats.items;
  parts : l.first.me.0.parts + length l.seats.items ≡ l.fn.first.me.0.parts + length l.fn.seats.items;
}

abbrev pub decreases-loop-seat : goal.decreases-loop-seat
decreases-loop-seat g l = length l.seats.items
