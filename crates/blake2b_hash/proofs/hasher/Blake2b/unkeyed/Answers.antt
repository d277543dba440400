use Rattle.std.proofs.Common.{refl}
use Rattle.blake2b_hash.proofs.Pieces.{Takes-none}
use Rattle.blake2b_hash.specs.Hasher.{Holds}
use Rattle.blake2b_hash.proofs.hasher.Blake2b.unkeyed.Goals as goal

pub returns : goal.returns
unfolding Holds
returns c = (c.requires, Takes-none _ _ _ refl refl refl c.start.ensures)
