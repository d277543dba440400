-- What a decoder stands for: how many bytes were read, and the bytes still to be read.
use Rattle.std.specs.Prelude.{◌≡◌, ℕ, ◌+◌, ◌-◌, List, length, Result, Ok, Err}
use Rattle.compact_enc.specs.declared.fields.EncFault.{EncFault}
use Rattle.compact_enc.specs.Reading.{Read, ◌>>=◌, bytes_at, uint_at, buffer_at}

-- an input that is read from its front
pub record Input : Type 0 where
  pub place : ℕ
  pub rest : List ℕ

-- the input once these bytes alone are left
abbrev pub behind : Input → List ℕ → Input
behind input rest = record { place = input.place + (length input.rest - length rest); rest = rest }

-- a field at the front of the input, and the input behind it
abbrev pub field_of : {A : Type 0} → Input → Read A → Result (A × Input) EncFault
field_of input read = read >>= λ x. Ok (x.0, behind input x.1)

-- a number of at most max
abbrev pub uint_of : ℕ → Input → Result (ℕ × Input) EncFault
uint_of max input = field_of input (uint_at max input.place input.rest)

-- so many bytes as they are
abbrev pub fixed_of : ℕ → Input → Result (List ℕ × Input) EncFault
fixed_of count input = field_of input (bytes_at count input.place input.rest)

-- a buffer of at most max bytes
abbrev pub buffer_of : ℕ → Input → Result (List ℕ × Input) EncFault
buffer_of max input = field_of input (buffer_at max input.place input.rest)

-- what a call returned, seen by view, and the input that it left are what reading gives; a fault leaves the input as it was
abbrev pub Reads : {X Y E : Type 0} → (X → Y) → Input → Input → Result X E → Result (Y × Input) E → Type 0
Reads view old new (Ok x) read = read ≡ Ok (view x, new)
Reads view old new (Err fault) read = (read ≡ Err fault) × (new ≡ old)

-- the call returned this value
abbrev pub Yields : {X Y E : Type 0} → (X → Y) → Result X E → Y → Type 0
Yields view (Ok x) y = view x ≡ y
Yields view (Err fault) y = ⊥
