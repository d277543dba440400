-- The bytes of a hash.
use Rattle.std.proofs.Common.{◌≡◌, ℕ, ◌-◌, ◌≤◌, List, [], ◌++◌, length, take, drop, replicate, refl, lit≤}
use Rattle.std.proofs.lemmas.List.{drop-replicate, length-take-le}
use Rattle.blake2b_hash.specs.Blake2b.{F, last_state, blake2b, hash_of}

-- the first n bytes of all, written over the front of 64 zeros
pub hash-zeros : (n nn : ℕ) (ys b all : List ℕ) → n ≡ nn → ys ≡ take n b → b ≡ all
    → ys ++ drop n (replicate 64 0) ≡ take nn all ++ replicate (64 - nn) 0
hash-zeros n nn ys b all same front whole = rw (front, whole, drop-replicate {X = ℕ} n 64 0, same) refl

-- a hash of at most 64 bytes has as many bytes as were asked for
pub length-blake2b : (nn : ℕ) (key message : List ℕ) → nn ≤ 64 → length (blake2b nn key message) ≡ nn
unfolding F last_state blake2b
length-blake2b nn key message fits = length-take-le nn _ fits

-- a hash has 32 bytes
pub length_hash_of : (message : List ℕ) → length (hash_of message) ≡ 32
unfolding hash_of
length_hash_of message = length-blake2b 32 [] message (lit≤ tt)
