use Rattle.std.proofs.Common.{refl, lit<, arith}
use Rattle.proof_check.proofs.Climbing.{first_joined, first_values, first_many}
use Rattle.proof_check.proofs.upgrade.first_roots.Goals as goal

pub extend-requires : goal.extend-requires
extend-requires c =
    (lit< tt, rw c.new-roots.ensures (omega (arith, first_many c.args.to c.args.added.now c.requires.within c.requires.cover)))

pub returns-clause-joined : goal.returns-clause-joined
returns-clause-joined c = first_joined c.args.to c.args.added.now _ c.requires.cover c.requires.bytes
    (rw (c.extend.ensures, c.new-roots.ensures, c.new.ensures, c.new-2.ensures, c.root_of_block-low.ensures.depth) refl)

pub returns-clause-values : goal.returns-clause-values
returns-clause-values c = λ value are. first_values c.args.to c.args.added.now _ value are
    (rw (c.extend.ensures, c.new-roots.ensures, c.new.ensures, c.new-2.ensures, c.root_of_block-low.ensures.depth) refl)
