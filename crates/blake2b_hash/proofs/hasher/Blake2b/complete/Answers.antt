use Rattle.std.proofs.Common.{arith, refl}
use Rattle.blake2b_hash.proofs.Pieces.{TakesWhole-complete, put_mid-end}
use Rattle.blake2b_hash.proofs.hasher.Blake2b.complete.Goals as goal

pub returns : goal.returns
returns c = λ nn i x held at.
    TakesWhole-complete nn i x c.args.bytes.now c.args.self.now _ held (omega (arith, c.requires)) refl refl c.compress-self.ensures
    (rw at (put_mid-end _ _ _ _ _ c.copy_from_slice.ensures.after (omega arith)))
