-- Reading a field: its value and the input behind it, or the first bad place.
use Rattle.std.specs.Prelude.{◌≡◌, ℕ, ◌^◌, ◌-◌, ◌==◌, List, length, Result, Ok, Err, nat_lt, if◌then◌else◌}
use Rattle.compact_enc.specs.declared.fields.EncFault.{EncFault}
use Rattle.compact_enc.specs.declared.fields.EncFault.TheVariants.{Short, NotShortest, TooLarge}
use Rattle.compact_enc.specs.Reading.{◌>>=◌}
use Rattle.compact_enc.specs.Input.{Input, uint_of, fixed_of}
use Rattle.oplog_form.specs.declared.form.BadForm.{BadForm}

-- a value and the input behind it, or the first bad field
abbrev pub Read : Type 0 → Type 0
Read A = Result (A × Input) BadForm

-- where a field's fault is
abbrev pub bad_of : EncFault → BadForm
bad_of (Short at) = record { at = at }
bad_of (NotShortest at) = record { at = at }
bad_of (TooLarge at) = record { at = at }

-- a field's value, or where its fault is
abbrev pub in_form : {A : Type 0} → Result A EncFault → Result A BadForm
in_form (Ok x) = Ok x
in_form (Err fault) = Err (bad_of fault)

-- what a call returned and the input that it left are what reading gives
abbrev pub Ahead : {A : Type 0} → Input → Result A BadForm → Read A → Type 0
Ahead new (Ok x) read = read ≡ Ok (x, new)
Ahead new (Err bad) read = read ≡ Err bad

-- a number of at most max
abbrev pub number_of : ℕ → Input → Read ℕ
number_of max input = in_form (uint_of max input)

-- so many bytes as they are
abbrev pub fixed_in : ℕ → Input → Read (List ℕ)
fixed_in count input = in_form (fixed_of count input)

-- this number and no other
unfoldable pub just_of : ℕ → Input → Read ℕ
just_of n input = do
  number ← number_of (2 ^ 64 - 1) input
  if number.0 == n then Ok number else Err (record { at = input.place })

-- two fields, one behind the other
unfoldable pub both_of : {A B : Type 0} → (Input → Read A) → (Input → Read B) → Input → Read (A × B)
both_of one other input = do
  first ← one input
  second ← other first.1
  Ok ((first.0, second.0), second.1)

-- the input behind what was read
abbrev pub past : {A : Type 0} → Read A → Read (Unit {0})
past read = read >>= λ x. Ok (tt, x.1)

-- bytes of which nothing is read
abbrev pub unread : List ℕ → Input
unread bytes = record { place = 0; rest = bytes }

-- a value that nothing follows
abbrev pub alone : {A : Type 0} → A → Input → Result A BadForm
alone value input = if nat_lt 0 (length input.rest) then Err (record { at = input.place }) else Ok value
