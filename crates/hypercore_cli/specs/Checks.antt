-- What `check` may do: how each end of it comes about.
use Rattle.std.specs.Prelude.{ℕ, ◌+◌, ◌<◌, ◌≤◌, ◌⊎◌, Bool, List, length, Ok}
use Rattle.std.specs.Io.KnownBytes.{Keeps, Appends, Consumes, IsAtEnd}
use Rattle.outside_traits.specs.Faults.{Rose}
use Rattle.outside_traits.specs.Streams.{SinkView, AppendsFront}
use Rattle.merkle_nodes.specs.Bundle.{Bundle, Spells}
use Rattle.merkle_nodes.specs.Check.{NoBundle, IsFirstFault, BlockProved, HeadAccepted, Differs, Checks, OpensSigned, block_at}
use Rattle.merkle_nodes.specs.declared.check.Opened.{Opened}
use Rattle.merkle_nodes.specs.declared.reading.TheConstants.{MAX_BUNDLE_BYTES}
use Rattle.hypercore_cli.specs.Runs.{Streams, NoOutput}
use Rattle.hypercore_cli.specs.declared.outcome.Outcome.{Outcome}
use Rattle.hypercore_cli.specs.declared.outcome.Outcome.TheVariants.{Done, ReadFault, WriteFault, BadForm, NotProved, BadSignature, NoMemory}

-- these bytes were read, at most one more than the largest bundle has, which are the input's next ones where it tells:
-- to its end, or more than any bundle has
pub record HasRead (r : Streams) (bytes : List ℕ) : Type 0 where
  pub few : length bytes ≤ MAX_BUNDLE_BYTES + 1
  pub told : Consumes r.input.left r.input_now.left bytes
  pub whole : (MAX_BUNDLE_BYTES < length bytes) ⊎ IsAtEnd r.input_now.left

-- what was read is so
abbrev pub Read : Streams → (List ℕ → Type 0) → Type 0
Read r P = (bytes : List ℕ) × HasRead r bytes × P bytes

-- the bytes are a bundle whose block, which stands there, is proved under an accepted head; so it is that of each log under
-- the bundle's roots, or two different inputs of equal hash are in hand
abbrev pub IsProved : (List ℕ → List ℕ → Bool) → List ℕ → Opened → Type 0
IsProved accepts bytes opened = Checks accepts bytes (Ok opened) × OpensSigned accepts bytes opened

-- when each end of a check of some bytes comes, and what the output then has
abbrev pub ChecksBytes : (List ℕ → List ℕ → Bool) → List ℕ → SinkView → SinkView → Outcome → Type 0
ChecksBytes accepts bytes output output_now Done = (opened : Opened) × IsProved accepts bytes opened × Appends output.holds output_now.holds (block_at bytes opened)
ChecksBytes accepts bytes output output_now WriteFault = Rose output.faults output_now.faults
    × (opened : Opened) × IsProved accepts bytes opened × AppendsFront output.holds output_now.holds (block_at bytes opened)
ChecksBytes accepts bytes output output_now (BadForm at) = NoBundle bytes × IsFirstFault bytes at × Keeps output.holds output_now.holds
ChecksBytes accepts bytes output output_now (NotProved index want have) = ((b : Bundle) × Spells b bytes × Differs b index want have) × Keeps output.holds output_now.holds
ChecksBytes accepts bytes output output_now BadSignature = ((b : Bundle) × Spells b bytes × BlockProved b × (HeadAccepted accepts b → ⊥)) × Keeps output.holds output_now.holds
ChecksBytes accepts bytes output output_now outcome = ⊥

-- when each end of `check` with a key comes, and what the output then has
abbrev pub ChecksTo : Streams → List ℕ → Outcome → Type 0
ChecksTo r key ReadFault = Rose r.input.faults r.input_now.faults × NoOutput r
ChecksTo r key NoMemory = NoOutput r
ChecksTo r key outcome = Read r (λ bytes. ChecksBytes (r.accepts key) bytes r.output r.output_now outcome)
