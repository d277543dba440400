use Rattle.std.proofs.Common.{◌<◌, length, arith, lit<}
use Rattle.flat_tree.specs.Roots.{full_roots_of}
use Rattle.flat_tree.specs.declared.limits.TheConstants.{MAX_ROOTS, MAX_DEPTH, MAX_PLACES}
use Rattle.std.proofs.lemmas.Nat.{one_shl}
use Rattle.flat_tree.proofs.RootLemmas.{roots_left-all, roots_left-push, roots_left-room, roots_left-none, tile-full, fall-full, only-full, length-full, numbers_below, length-numbers}
use Rattle.flat_tree.proofs.roots.full_roots.Goals as goal

pub loop-left-init : goal.loop-left-init
loop-left-init c = (omega arith, roots_left-all c.args.blocks c.new-places.result c.new-places.ensures)

pub push-requires : goal.push-requires
push-requires c =
    let some : 0 < c.loop-left.left = omega arith in
    let room : length c.loop-left.places < MAX_PLACES =
    omega (
      arith,
      roots_left-room c.args.blocks c.loop-left.left c.loop-left.places c.loop-left.invariant.1 some,
      length-full MAX_DEPTH c.args.blocks (lit< tt) c.requires.within,
    ) in
    (lit< tt, room)

pub loop-left-preserved : goal.loop-left-preserved
loop-left-preserved c =
    let size = one_shl c.ilog2.result 64 c.ilog2.ensures.bound in (
      omega (arith, c.loop-left.invariant.0),
      roots_left-push c.args.blocks c.loop-left.left c.ilog2.result _ c.loop-left.places _ c.loop-left.invariant.1
          c.ilog2.ensures.power_le c.ilog2.ensures.next_power_gt size c.push.ensures,
    )

pub returns-clause-numbers : goal.returns-clause-numbers
returns-clause-numbers c = roots_left-none c.args.blocks c.loop-left.left c.loop-left.places c.loop-left.invariant.1 (omega arith)

pub returns-clause-tiles : goal.returns-clause-tiles
returns-clause-tiles c = tile-full c.args.blocks

pub returns-clause-falls : goal.returns-clause-falls
returns-clause-falls c = fall-full c.args.blocks

pub returns-clause-only : goal.returns-clause-only
returns-clause-only c = only-full c.args.blocks

pub returns-clause-few : goal.returns-clause-few
returns-clause-few c few = length-full MAX_ROOTS c.args.blocks (lit< tt) few

pub returns-clause-room : goal.returns-clause-room
returns-clause-room c few =
    omega (
      arith,
      length-numbers c.loop-left.places (full_roots_of c.args.blocks) (returns-clause-numbers c),
      length-full MAX_ROOTS c.args.blocks (lit< tt) few,
    )

pub returns-clause-below : goal.returns-clause-below
returns-clause-below c =
    numbers_below c.loop-left.places (full_roots_of c.args.blocks) 0 c.args.blocks (returns-clause-numbers c) (tile-full c.args.blocks)
