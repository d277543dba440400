use Rattle.std.proofs.Common.{◌≡◌, true, ◌-◌, ◌/◌, ◌^◌, sym, ◌∙◌, arith, rules}
use Rattle.std.specs.Prelude.{is_some}
use Rattle.node_set.proofs.PathLemmas.{place_fits}
use Rattle.node_set.proofs.OffsetSums.{left_in_closure}
use Rattle.node_set.proofs.path.left_of_node.Goals as goal

pub index-requires-clause-offset : goal.index-requires-clause-offset
index-requires-clause-offset g c =
    let fits = place_fits c.args.index c.args.level (omega (arith, c.requires.fits)) (omega (arith, c.requires.fits)) in
    omega (arith, fits)

pub unwrap-requires : goal.unwrap-requires
unwrap-requires g c =
    let given = c.in-Ok.ensures.gives.closed c.args.level (c.args.index / 2 ^ c.args.level - 1) (sym c.index.ensures.number) in
    let held = c.requires.held in
    let some : is_some c.in-Ok.left ≡ true = given ∙ left_in_closure _ _ _ _ (search rules) c.requires.within c.requires.below c.if-offset-eq0.false in
    search rules
