use Rattle.std.proofs.Common.{◌∷◌, [], length, length-append, ap, ◌∙◌, arith}
use Rattle.core_state.proofs.BatchLemmas.{more_taken}
use Rattle.core_state.proofs.append.push_copies.Goals as goal

pub loop-place-preserved : goal.loop-place-preserved
loop-place-preserved c = record {
  added = c.push_reserved.ensures.items
      ∙ more_taken c.args.kept.now.items c.loop-place.kept.items c.args.blocks.now c.loop-place.place c.in-Ok.copy c.get.result.now
      (omega arith) c.get.ensures c.in-Ok.ensures c.loop-place.invariant.added;
  room = omega (arith, c.loop-place.invariant.room, c.push_reserved.ensures.capacity, ap length c.push_reserved.ensures.items, length-append c.loop-place.kept.items (c.in-Ok.copy ∷ []));
}
