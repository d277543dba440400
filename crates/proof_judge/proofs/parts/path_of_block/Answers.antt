use Rattle.std.proofs.Common.{subst, arith}
use Rattle.std.specs.Option.{IfSome}
use Rattle.proof_form.specs.Proofs.{BlockFits, block_view}
use Rattle.proof_check.specs.Meets.{seen}
use Rattle.proof_judge.proofs.parts.path_of_block.Goals as goal

pub leaf-requires : goal.leaf-requires
leaf-requires c =
    let fits : BlockFits (seen c.in-Some.block) = subst (λ b. IfSome (block_view b) BlockFits) c.in-Some.is c.requires.fits in
    omega (arith, fits.index)
