-- What is seen of links over the system, of which nothing is told but their end and their faults, and of the source and the
-- sink that such a link is made of.
use Rattle.std.specs.Prelude.{◌≡◌, ℕ, Bool, List, Option, Some, None, Result, IsErr}
use Rattle.outside_traits.specs.Streams.{SourceView, SinkView, Reads, Writes}
use Rattle.link_traits.specs.Links.{LinkView}
use Rattle.link_traits.specs.Dials.{DialView, ListenView}

-- a link with this count of faults, which was 0 when it was made
abbrev pub silent_link : Bool → ℕ → LinkView
silent_link ended count = record {
  origin = record { address = None; number = None; faults = 0 };
  given = None;
  left = None;
  written = None;
  ended = ended;
  faults = count;
}

abbrev pub silent_dial : ℕ → DialView
silent_dial count = record { links = None; faults = count }

abbrev pub silent_listen : ℕ → ListenView
silent_listen count = record { bound = None; links = None; faults = count }

-- an open link reads what its source reads, and leaves its sink; one that was ended fails
abbrev pub ReadsThrough : {S K E : Type 0} → (S → SourceView) → Option (S × K) → Option (S × K) → Result ℕ E → List ℕ → Type 0
ReadsThrough source (Some old) (Some new) answer into = Reads (source old.0) (source new.0) answer into × (new.1 ≡ old.1)
ReadsThrough source (Some old) None answer into = ⊥
ReadsThrough source None (Some new) answer into = ⊥
ReadsThrough source None None answer into = IsErr answer

-- an open link writes what its sink writes, and leaves its source; one that was ended fails
abbrev pub WritesThrough : {S K E : Type 0} → (K → SinkView) → Option (S × K) → Option (S × K) → Result ℕ E → List ℕ → Type 0
WritesThrough sink (Some old) (Some new) answer piece = Writes (sink old.1) (sink new.1) answer piece × (new.0 ≡ old.0)
WritesThrough sink (Some old) None answer piece = ⊥
WritesThrough sink None (Some new) answer piece = ⊥
WritesThrough sink None None answer piece = IsErr answer
