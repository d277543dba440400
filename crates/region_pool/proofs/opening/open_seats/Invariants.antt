use Rattle.std.proofs.Common.{◌≡◌, ◌-◌, replicate}
use Rattle.region_pool.specs.Seats.{new_seat, IsFirst}
use Rattle.region_pool.specs.declared.law.TheConstants.{MAX_SEATS}
use Rattle.region_pool.proofs.opening.open_seats.Given as goal

abbrev pub invariant-loop-i : goal.invariant-loop-i
invariant-loop-i g l = record {
  first : IsFirst l.sheet.shared.table_id l.first (MAX_SEATS - l._i);
  list : l.list.items ≡ replicate l._i (new_seat l.sheet.shared.table_id);
}
