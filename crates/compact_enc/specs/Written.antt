-- What an encoder has written.
use Rattle.std.specs.Prelude.{◌≡◌, ℕ, ◌+◌, ◌-◌, ◌<◌, ◌≤◌, List, ◌++◌, length, take, Result, Ok, Err}
use Rattle.compact_enc.specs.declared.encoder.Encoder.{Encoder}
use Rattle.compact_enc.specs.declared.encoder.Full.{Full}

-- the bytes written so far
abbrev pub written : Encoder → List ℕ
written encoder = take encoder.place encoder.into.now

-- how many bytes are free
abbrev pub free : Encoder → ℕ
free encoder = length encoder.into.now - encoder.place

-- the bytes are written behind the others, or fewer are free and what was written stays
abbrev pub Puts : {A : Type 0} → List ℕ → Encoder → Encoder → Result A Full → Type 0
Puts bytes old new (Ok _) = (length bytes ≤ free old) × (new.place ≡ old.place + length bytes) × (written new ≡ written old ++ bytes)
Puts bytes old new (Err _) = (free old < length bytes) × (new.place ≡ old.place) × (written new ≡ written old)

-- the buffer is the same one, of the same length
pub record SameBuffer (old new : Encoder) : Type 0 where
  pub name : new.into.ghost_name ≡ old.into.ghost_name
  pub length : length new.into.now ≡ length old.into.now

-- the bytes are written behind the others; or fewer are free, and some of them may stand behind what was written
abbrev pub PutsSome : {A : Type 0} → List ℕ → Encoder → Encoder → Result A Full → Type 0
PutsSome bytes old new (Ok _) = (length bytes ≤ free old) × (new.place ≡ old.place + length bytes) × (written new ≡ written old ++ bytes)
PutsSome bytes old new (Err _) = (free old < length bytes) × (old.place ≤ new.place) × (take old.place new.into.now ≡ written old)

-- so it is in one buffer
pub record Writes {A : Type 0} (bytes : List ℕ) (old new : Encoder) (result : Result A Full) : Type 0 where
  pub buffer : SameBuffer old new
  pub puts : PutsSome bytes old new result
