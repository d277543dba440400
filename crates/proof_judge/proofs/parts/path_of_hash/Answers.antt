use Rattle.std.proofs.Common.{option_map, ap, sym, subst, arith}
use Rattle.std.specs.Option.{IfSome}
use Rattle.proof_form.specs.Proofs.{HashFits}
use Rattle.proof_check.specs.Parts.{part_of_hash}
use Rattle.proof_judge.proofs.Ranges.{number_parts}
use Rattle.proof_judge.proofs.parts.path_of_hash.Goals as goal

pub returns : goal.returns
returns c =
    let hash = c.in-Some.hash in
    let fits : HashFits hash = subst (λ o. IfSome o HashFits) c.in-Some.is c.requires.fits in
    let parts = number_parts hash.node.index (omega (arith, fits.index)) in
    rw (c.depth.ensures.depth _ _ parts, c.offset.ensures.offset _ _ parts, c.twig.ensures, c.as_slice.ensures.items)
    (ap (option_map part_of_hash) (sym c.in-Some.is))
