use Rattle.std.proofs.Common.{◌≡◌, true, ◌-◌, ◌+◌, ◌/◌, ◌^◌, sym, ◌∙◌, rules, arith}
use Rattle.std.specs.Prelude.{is_some}
use Rattle.node_set.specs.Contents.{held}
use Rattle.node_set.specs.Paths.{sibling_of}
use Rattle.node_set.proofs.PathLemmas.{place_fits}
use Rattle.core_snap.proofs.WayLemmas.{sibling_stored, way_numbers}
use Rattle.core_snap.proofs.read.sibling_over.Goals as goal

pub index-own-requires-clause-offset : goal.index-own-requires-clause-offset
index-own-requires-clause-offset g c =
    place_fits c.args.index c.args.level (omega (arith, c.requires.way.fits)) (omega (arith, c.requires.way.fits, c.requires.below))

pub unwrap-requires : goal.unwrap-requires
unwrap-requires g c =
    let beside = c.sibling.ensures.sibling c.args.level (c.args.index / 2 ^ c.args.level) c.index-own.ensures.number in
    let given = c.in-Ok.ensures.gives.closed c.args.level (sibling_of (c.args.index / 2 ^ c.args.level)) (sym beside) in
    let stored = sibling_stored _ _ _ _ c.requires.way.is_held c.requires.way.inside c.args.level (c.args.levels - (c.args.level + 1)) (omega (arith, c.requires.below)) in
    let some : is_some c.in-Ok.found ≡ true = given ∙ stored in
    search rules

pub returns-in-Ok-clause-low : goal.returns-in-Ok-clause-low
returns-in-Ok-clause-low g c =
    let m = (g.V.View.view c.args.view.now).content in
    let low = way_numbers m.length (held m) _ _ c.requires.way.is_held c.requires.way.inside c.args.level (c.args.levels - c.args.level) (omega (arith, c.requires.below)) in
    let is = c.in-Ok.ensures.gives.numbered c.unwrap.result (search rules) in
    omega (arith, is, low, c.sibling.ensures.fits, c.index-own.ensures.number, c.requires.way.few)
