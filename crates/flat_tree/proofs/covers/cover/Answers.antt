use Rattle.std.proofs.Common.{ℕ, ◌<◌, length, ◌∙◌, ap, arith, lit<}
use Rattle.std.proofs.lemmas.Nat.{one_shl}
use Rattle.flat_tree.specs.Covers.{cover_of}
use Rattle.flat_tree.specs.declared.limits.TheConstants.{MAX_SIBLINGS, MAX_DEPTH, MAX_PLACES}
use Rattle.flat_tree.proofs.RootLemmas.{numbers_below, length-numbers}
use Rattle.flat_tree.proofs.CoverLemmas.{cover-push, cover-room, cover-done, tile-cover, best-cover, cover-full, length-cover}
use Rattle.flat_tree.proofs.covers.cover.Goals as goal

pub push-requires : goal.push-requires
push-requires c =
    let some : c.loop-at.at < c.args.to = omega arith in
    let room : length c.loop-at.places < MAX_PLACES =
    omega (
      arith,
      cover-room c.args.from c.loop-at.at c.args.to c.loop-at.places some c.loop-at.invariant.joined,
      length-cover MAX_DEPTH c.args.from c.args.to (lit< tt) c.requires.ordered c.requires.within,
    ) in
    (lit< tt, room)

pub loop-at-preserved : goal.loop-at-preserved
loop-at-preserved c =
    let size = one_shl c.largest_at.result 64 c.largest_at.ensures.fits in
    record {
      within = omega (arith, size, c.largest_at.ensures.within);
      joined = cover-push c.largest_at.result c.loop-at.at c.args.to _ c.loop-at.places _ _ c.loop-at-test.true
          c.largest_at.ensures.largest size c.push.ensures c.loop-at.invariant.joined;
    }

pub returns-clause-numbers : goal.returns-clause-numbers
returns-clause-numbers c = cover-done c.loop-at.at c.args.to c.loop-at.places _ (omega arith) c.loop-at.invariant.joined

pub returns-clause-tiles : goal.returns-clause-tiles
returns-clause-tiles c = tile-cover c.args.from c.args.to c.requires.ordered

pub returns-clause-shortest : goal.returns-clause-shortest
returns-clause-shortest c trees tile = (best-cover c.args.from c.args.to trees tile).0

pub returns-clause-only : goal.returns-clause-only
returns-clause-only c trees tile = (best-cover c.args.from c.args.to trees tile).1

pub returns-clause-roots : goal.returns-clause-roots
returns-clause-roots c first = ap (λ (n : ℕ). cover_of n c.args.to) first ∙ cover-full c.args.to

pub returns-clause-few : goal.returns-clause-few
returns-clause-few c few = length-cover MAX_SIBLINGS c.args.from c.args.to (lit< tt) c.requires.ordered few

pub returns-clause-room : goal.returns-clause-room
returns-clause-room c few =
    let all = length-cover MAX_SIBLINGS c.args.from c.args.to (lit< tt) c.requires.ordered few in
    omega (arith, all, length-numbers c.loop-at.places (cover_of c.args.from c.args.to) (returns-clause-numbers c))

pub returns-clause-below : goal.returns-clause-below
returns-clause-below c =
    numbers_below c.loop-at.places (cover_of c.args.from c.args.to) c.args.from c.args.to (returns-clause-numbers c)
    (tile-cover c.args.from c.args.to c.requires.ordered)
