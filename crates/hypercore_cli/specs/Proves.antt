-- What `prove` may do: how each end of it comes about.
use Rattle.std.specs.Prelude.{◌≡◌, ℕ, ◌<◌, ◌≤◌, Bool, List, [], ◌++◌, length, None, Some, IsTrue}
use Rattle.std.specs.Io.KnownBytes.{Keeps, Appends, Consumes, IsAtEnd}
use Rattle.outside_traits.specs.Faults.{Rose}
use Rattle.outside_traits.specs.Streams.{SourceView, SinkView, AppendsFront}
use Rattle.outside_traits.specs.Lines.{lines_of}
use Rattle.merkle_batch.specs.Limits.{limit_of}
use Rattle.merkle_batch.specs.Honest.{AppendsProof}
use Rattle.merkle_nodes.specs.declared.limit.What.{What}
use Rattle.hypercore_cli.specs.LineLimits.{limit_in}
use Rattle.hypercore_cli.specs.Runs.{Streams, NoOutput}
use Rattle.hypercore_cli.specs.declared.outcome.Outcome.{Outcome}
use Rattle.hypercore_cli.specs.declared.outcome.Outcome.TheVariants.{Done, ReadFault, WriteFault, OutOfRange, Limit, NoMemory}

-- these bytes were read, which are the input's next ones where it tells, and where this says so they end it
pub record HasTaken (input input_now : SourceView) (bytes : List ℕ) (ended : Bool) : Type 0 where
  pub told : Consumes input.left input_now.left bytes
  pub at_end : IsTrue ended → IsAtEnd input_now.left

-- whatever follows the bytes, and nothing where they end the input, the first limit that its lines pass is this one
abbrev pub PassFirst : List ℕ → Bool → What → ℕ → Type 0
PassFirst bytes ended what max = (left : List ℕ) → (IsTrue ended → left ≡ []) → limit_in 0 0 (lines_of (bytes ++ left)) ≡ Some (limit_of what max)

-- what was read passes this limit
abbrev pub PassesLimit : SourceView → SourceView → What → ℕ → Type 0
PassesLimit input input_now what max = (bytes : List ℕ) × (ended : Bool) × HasTaken input input_now bytes ended × PassFirst bytes ended what max

-- these bytes were read, which are all that the input had left where it tells, and their lines pass no limit
pub record ReadsLog (input input_now : SourceView) (bytes : List ℕ) : Type 0 where
  pub told : Consumes input.left input_now.left bytes
  pub at_end : IsAtEnd input_now.left
  pub fits : limit_in 0 0 (lines_of bytes) ≡ None

-- these bytes are the bundle of the log's block at the index under fork 0, with a signature that is accepted
abbrev pub IsBundleOf : (List ℕ → List ℕ → Bool) → List (List ℕ) → ℕ → List ℕ → Type 0
IsBundleOf accepts log index bytes = (index < length log) × AppendsProof accepts log index [] bytes

-- when each end of proving a log's block comes, and what the output then has
abbrev pub ProvesBlock : (List ℕ → List ℕ → Bool) → List (List ℕ) → ℕ → SinkView → SinkView → Outcome → Type 0
ProvesBlock accepts log index output output_now Done = (bundle : List ℕ) × IsBundleOf accepts log index bundle × Appends output.holds output_now.holds bundle
ProvesBlock accepts log index output output_now WriteFault = Rose output.faults output_now.faults
    × (bundle : List ℕ) × IsBundleOf accepts log index bundle × AppendsFront output.holds output_now.holds bundle
ProvesBlock accepts log index output output_now (OutOfRange end) = (end ≡ length log) × (end ≤ index) × Keeps output.holds output_now.holds
ProvesBlock accepts log index output output_now NoMemory = Keeps output.holds output_now.holds
ProvesBlock accepts log index output output_now outcome = ⊥

-- when each end of `prove` with a key and an index comes, and what the output then has
abbrev pub ProvesTo : Streams → List ℕ → ℕ → Outcome → Type 0
ProvesTo r key index ReadFault = Rose r.input.faults r.input_now.faults × NoOutput r
ProvesTo r key index (Limit what max) = PassesLimit r.input r.input_now what max × NoOutput r
ProvesTo r key index NoMemory = NoOutput r
ProvesTo r key index outcome = (bytes : List ℕ) × ReadsLog r.input r.input_now bytes
    × ProvesBlock (r.accepts key) (lines_of bytes) index r.output r.output_now outcome
