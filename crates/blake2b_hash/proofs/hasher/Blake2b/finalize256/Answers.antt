use Rattle.std.proofs.Common.{◌∙◌, take, ap}
use Rattle.blake2b_hash.specs.Blake2b.{blake2b, bytes_of, hash_of}
use Rattle.blake2b_hash.specs.Hasher.{Holds}
use Rattle.blake2b_hash.proofs.hasher.Blake2b.finalize256.Goals as goal

pub returns-clause-keyed : goal.returns-clause-keyed
unfolding blake2b hash_of Holds
returns-clause-keyed c = λ key message held. c.first_bytes.ensures ∙ ap (take 32) (c.bytes_of.ensures ∙ ap bytes_of (c.close.ensures 32 _ _ held.1))

pub returns-clause-hash : goal.returns-clause-hash
unfolding blake2b hash_of Holds
returns-clause-hash c = λ message held. c.first_bytes.ensures ∙ ap (take 32) (c.bytes_of.ensures ∙ ap bytes_of (c.close.ensures 32 _ _ held.1))
