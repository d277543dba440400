use Rattle.std.proofs.Common.{◌≡◌, ◌∙◌, ap, arith}
use Rattle.blake2b_hash.specs.Blake2b.{blake2b, bytes_of}
use Rattle.blake2b_hash.proofs.Hashes.{hash-zeros}
use Rattle.blake2b_hash.specs.Hasher.{Holds}
use Rattle.blake2b_hash.proofs.hasher.Blake2b.finalize.Goals as goal

pub returns : goal.returns
unfolding blake2b Holds
returns c = λ nn key message held.
    let same : c.min-outlen.result ≡ nn = omega (arith, c.min-outlen.ensures, held.1.outlen, held.0) in
    hash-zeros _ nn _ _ _ same c.copy_from_slice.ensures.after (c.bytes_of-bytes.ensures ∙ ap bytes_of (c.close.ensures nn _ _ held.1))
