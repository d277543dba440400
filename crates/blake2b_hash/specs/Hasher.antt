-- What a hasher holds of its input (RFC 7693, section 3.3), however the input was cut.
use Rattle.std.specs.Prelude.{◌≡◌, ℕ, ◌-◌, ◌*◌, ◌/◌, ◌%◌, ◌^◌, ◌<◌, ◌≤◌, List, length, take, drop}
use Rattle.std.specs.Bool.{IsTrue, IsFalse}
use Rattle.blake2b_hash.specs.Blake2b.{first_state, state_after, blocks_before, input}
use Rattle.blake2b_hash.specs.declared.hasher.Blake2b.{Blake2b}
use Rattle.blake2b_hash.specs.declared.hasher.TheConstants.{MAX_OUT_BYTES}

-- the bytes of the last block, for an input of n bytes
abbrev pub last_bytes : ℕ → ℕ
last_bytes n = n - 128 * blocks_before n

-- the hasher, which began in the state i, has taken in the blocks of x but the last, and that one is in its buffer
pub record Takes (nn : ℕ) (i x : List ℕ) (hasher : Blake2b) : Type 0 where
  pub outlen : hasher.outlen ≡ nn
  pub total : hasher.total ≡ length x % 2 ^ 128
  pub begun : IsTrue hasher.begun → 0 < length x
  pub empty : IsFalse hasher.begun → length x ≡ 0
  pub state : hasher.h ≡ state_after i x (blocks_before (length x))
  pub rest : take (last_bytes (length x)) hasher.buffer ≡ drop (128 * blocks_before (length x)) x

-- x is whole blocks, and the hasher, which began in the state i, has taken in all of them
pub record TakesWhole (nn : ℕ) (i x : List ℕ) (hasher : Blake2b) : Type 0 where
  pub outlen : hasher.outlen ≡ nn
  pub total : hasher.total ≡ length x % 2 ^ 128
  pub whole : length x % 128 ≡ 0
  pub state : hasher.h ≡ state_after i x (length x / 128)

-- the hasher is to give nn bytes of hash, and holds this message under the key
unfoldable pub Holds : ℕ → List ℕ → List ℕ → Blake2b → Type 0
Holds nn key message hasher = (nn ≤ MAX_OUT_BYTES) × Takes nn (first_state nn (length key)) (input key message) hasher
