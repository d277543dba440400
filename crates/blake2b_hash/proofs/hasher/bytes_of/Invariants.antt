use Rattle.std.proofs.Common.{◌≡◌, ◌*◌, length, take}
use Rattle.blake2b_hash.specs.Blake2b.{bytes_of}
use Rattle.blake2b_hash.proofs.hasher.bytes_of.Given as goal

abbrev pub invariant-loop-i : goal.invariant-loop-i
invariant-loop-i l = (length l.bytes ≡ 64) × (take (8 * l.i) l.bytes ≡ bytes_of (take l.i l.h))
