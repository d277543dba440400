-- Reading a field, with what is wrong with it: its value and the input behind it, or the first bad place and why.
use Rattle.std.specs.Prelude.{◌≡◌, ℕ, ◌^◌, ◌-◌, Bool, true, false, List, [], Option, None, Some, Result, Ok, Err, nat_lt, if◌then◌else◌}
use Rattle.compact_enc.specs.declared.fields.EncFault.{EncFault}
use Rattle.compact_enc.specs.declared.fields.EncFault.TheVariants.{Short as ShortField, NotShortest as LongField, TooLarge as LargeField}
use Rattle.compact_enc.specs.Reading.{◌>>=◌}
use Rattle.compact_enc.specs.Input.{Input, uint_of, fixed_of, buffer_of}
use Rattle.proof_form.specs.declared.fields.TheConstants.{MAX_NUMBER}
use Rattle.proof_form.specs.declared.form.BadForm.{BadForm}
use Rattle.proof_form.specs.declared.form.Bad.TheVariants.{Short, NotShortest, TooLarge, Flags, Count}

-- a value and the input behind it, or the first bad field
abbrev pub Read : Type 0 → Type 0
Read A = Result (A × Input) BadForm

-- what a field's fault says of the whole
abbrev pub bad_of : EncFault → BadForm
bad_of (ShortField at) = record { at = at; why = Short }
bad_of (LongField at) = record { at = at; why = NotShortest }
bad_of (LargeField at) = record { at = at; why = TooLarge }

-- a field's value, or what its fault says
abbrev pub in_form : {A : Type 0} → Result A EncFault → Result A BadForm
in_form (Ok x) = Ok x
in_form (Err fault) = Err (bad_of fault)

-- what a call returned, seen by view, and the input that it left are what reading gives
abbrev pub Ahead : {X Y : Type 0} → (X → Y) → Input → Result X BadForm → Read Y → Type 0
Ahead view new (Ok x) read = read ≡ Ok (view x, new)
Ahead view new (Err bad) read = read ≡ Err bad

-- a number of at most max
abbrev pub number_of : ℕ → Input → Read ℕ
number_of max input = in_form (uint_of max input)

-- so many bytes as they are
abbrev pub fixed_in : ℕ → Input → Read (List ℕ)
fixed_in count input = in_form (fixed_of count input)

-- a buffer of at most max bytes
abbrev pub buffer_in : ℕ → Input → Read (List ℕ)
buffer_in max input = in_form (buffer_of max input)

-- the spelling of a part that is there, or nothing
abbrev pub part_spelling : {A : Type 0} → (A → List ℕ) → Option A → List ℕ
part_spelling spell None = []
part_spelling spell (Some part) = spell part

-- a part that is there, or none
abbrev pub part_of : {A : Type 0} → Bool → (Input → Read A) → Input → Read (Option A)
part_of true read input = read input >>= λ x. Ok (Some x.0, x.1)
part_of false read input = Ok (None, input)

-- a fork, and flags that pass the test
unfoldable pub start_of : (ℕ → Bool) → Input → Read (ℕ × ℕ)
start_of test input = do
  fork ← number_of MAX_NUMBER input
  flags ← number_of (2 ^ 64 - 1) fork.1
  if test flags.0 then Ok ((fork.0, flags.0), flags.1) else Err (record { at = fork.1.place; why = Flags })

-- a start, and a length above it
unfoldable pub span_of : Input → Read (ℕ × ℕ)
span_of input = do
  start ← number_of MAX_NUMBER input
  blocks ← number_of MAX_NUMBER start.1
  if nat_lt start.0 blocks.0 then Ok ((start.0, blocks.0), blocks.1) else Err (record { at = start.1.place; why = Count })
