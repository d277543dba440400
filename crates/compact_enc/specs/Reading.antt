-- Reading one field that begins at a place: its value and the bytes behind it, or the first fault.
use Rattle.std.specs.Prelude.{◌≡◌, ◌<◌, ℕ, ◌^◌, ◌-◌, List, [], ◌∷◌, length, get_or, take, drop, Result, Ok, Err, nat_le, nat_lt, ◌==◌, if◌then◌else◌}
use Rattle.std.specs.Int.{Width, w16, w32, w64, byte_len, from_le_bytes}
use Rattle.compact_enc.specs.declared.marks.TheConstants.{MARK_U16, MARK_U32, LEAST_U16, LEAST_U32, LEAST_U64}
use Rattle.compact_enc.specs.declared.fields.EncFault.{EncFault}
use Rattle.compact_enc.specs.declared.fields.EncFault.TheVariants.{Short, NotShortest, TooLarge}

-- each is a byte
abbrev pub IsBytes : List ℕ → Type 0
IsBytes bytes = (i : ℕ) → get_or bytes i 0 < 256

-- a field's value and the bytes after it, or its fault
abbrev pub Read : Type 0 → Type 0
Read A = Result (A × List ℕ) EncFault

infixl 10 ◌>>=◌
-- the next step, where no field was at fault
abbrev pub ◌>>=◌ : {A B E : Type 0} → Result A E → (A → Result B E) → Result B E
(Ok x) >>= f = f x
(Err e) >>= f = Err e

-- what a reader returned, seen by view, is what reading gives
abbrev pub Gives : {X Y E : Type 0} → (X → Y) → Result X E → Result Y E → Type 0
Gives view (Ok x) read = read ≡ Ok (view x)
Gives view (Err fault) read = read ≡ Err fault

-- so many bytes as they are
unfoldable pub bytes_at : ℕ → ℕ → List ℕ → Read (List ℕ)
bytes_at count at bytes = if nat_le count (length bytes) then Ok (take count bytes, drop count bytes) else Err (Short at)

-- a number has no shorter spelling from the least of its width on, and is at most max
abbrev pub checked : ℕ → ℕ → ℕ → ℕ → Result ℕ EncFault
checked least max at n = if nat_lt n least then Err (NotShortest at) else if nat_lt max n then Err (TooLarge at) else Ok n

-- the number behind a mark
unfoldable pub wide_at : Width → ℕ → ℕ → ℕ → List ℕ → Read ℕ
wide_at w least max at bytes = do
  digits ← bytes_at (byte_len w) at bytes
  number ← checked least max at (from_le_bytes w digits.0)
  Ok (number, digits.1)

-- a number of at most max
unfoldable pub uint_at : ℕ → ℕ → List ℕ → Read ℕ
uint_at max at [] = Err (Short at)
uint_at max at (mark ∷ bytes) =
    if nat_lt mark MARK_U16 then checked 0 max at mark >>= (λ number. Ok (number, bytes))
    else if mark == MARK_U16 then wide_at w16 LEAST_U16 max at bytes
    else if mark == MARK_U32 then wide_at w32 LEAST_U32 max at bytes
    else wide_at w64 LEAST_U64 max at bytes

-- a buffer of at most max bytes, which is one field
unfoldable pub buffer_at : ℕ → ℕ → List ℕ → Read (List ℕ)
buffer_at max at bytes = do
  count ← uint_at (2 ^ 64 - 1) at bytes
  buffer ← bytes_at count.0 at count.1
  if nat_lt max count.0 then Err (TooLarge at) else Ok buffer
