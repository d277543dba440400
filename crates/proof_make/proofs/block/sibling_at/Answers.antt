use Rattle.std.proofs.Common.{◌≡◌, true, sym, ◌∙◌, arith, rules}
use Rattle.std.specs.Prelude.{is_some}
use Rattle.proof_make.proofs.Siblings.{sibling_in_closure, sibling_fits}
use Rattle.proof_make.proofs.block.sibling_at.Goals as goal

pub index-requires-clause-offset : goal.index-requires-clause-offset
index-requires-clause-offset g c = sibling_fits c.args.index c.args.level (omega (arith, c.requires.fits)) (omega (arith, c.requires.fits))

pub unwrap-requires : goal.unwrap-requires
unwrap-requires g c =
    let given = c.in-Ok.ensures.gives.closed _ _ (sym c.index.ensures.number) in
    let held = c.requires.held in
    let some : is_some c.in-Ok.sibling ≡ true = given ∙ sibling_in_closure _ _ _ _ (search rules) c.requires.within c.requires.below in
    search rules
