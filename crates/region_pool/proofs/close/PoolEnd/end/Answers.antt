use Rattle.std.proofs.Common.{◌≡◌, ◌-◌, ◌≤◌, ◌<◌, length, sym, ap, ◌∙◌, arith}
use Rattle.std.specs.Mem.Slots.{slots_items, slots_counts}
use Rattle.region_pool.specs.declared.law.TheConstants.{MAX_SEATS}
use Rattle.region_pool.specs.Seats.{view_of}
use Rattle.region_pool.proofs.Closing.{all_there}
use Rattle.region_pool.proofs.close.PoolEnd.end.Goals as goal

pub take_all-requires-clause-home : goal.take_all-requires-clause-home
take_all-requires-clause-home g c place below =
    let words = c.close_with-closed.result.words in
    let seats = ap (λ pool. pool.seats) c.self.view_is in
    let first_parts : c.into_seat-first.result.me.0.parts ≡ MAX_SEATS - c.self.inside.seats =
    ap (λ views. (view_of views).parts) (sym c.into_seat-first.ensures.2) ∙ c.self.invariant.parts_are in
    let all : MAX_SEATS ≤ c.gather.new.first.me.0.parts =
    omega (arith, c.gather.ensures.parts_are, first_parts, c.self.invariant.few, seats, c.requires.all) in
    let within : place < length (slots_items words) = omega (arith, (slots_counts words).0, c.close_with-closed.ensures.counts.0, c.pool.invariant.words, below) in
    all_there (slots_items words) _ _ _ c.close_with-closed.ensures.values.2 c.gather.ensures.empty all place within
