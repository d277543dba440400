use Rattle.std.proofs.Common.{◌+◌, length, arith, refl}
use Rattle.std.proofs.lemmas.Slice.{take-put_mid}
use Rattle.blake2b_hash.specs.Hasher.{last_bytes}
use Rattle.blake2b_hash.proofs.Pieces.{Takes-keep}
use Rattle.blake2b_hash.proofs.hasher.Blake2b.keep.Goals as goal

pub returns : goal.returns
returns c = λ nn i x held at some.
    let bytes = c.args.bytes.now in
    let old = c.args.self.now in
    let fill = last_bytes (length x) in
    Takes-keep nn i x bytes old _ held (omega (arith, c.requires)) some refl refl refl refl
    (rw (c.copy_from_slice.ensures.after, at) (take-put_mid fill _ old.buffer bytes (fill + length bytes) refl (omega (arith, c.requires))))
