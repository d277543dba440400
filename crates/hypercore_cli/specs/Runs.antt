-- What is seen of one run of the program.
use Rattle.std.specs.Prelude.{◌≡◌, ℕ, ◌⊎◌, Bool, List, map, String, string_bytes, IsTrue}
use Rattle.std.specs.declared.alloc.Global.{Global}
use Rattle.std.specs.Io.KnownBytes.{Keeps, Appends}
use Rattle.outside_traits.specs.Faults.{Rose}
use Rattle.outside_traits.specs.Streams.{SourceView, SinkView, AppendsFront}
use Rattle.core_shelf.specs.Shelf.{ShelfView, Counts, KeepsList, KeepsDisks}
use Rattle.core_shelf.specs.Named.{IsHome}

-- what the authority of each key accepts, and what the input and the output of a run tell before and after
pub record Streams : Type 0 where
  pub accepts : List ℕ → List ℕ → List ℕ → Bool
  pub input : SourceView
  pub input_now : SourceView
  pub output : SinkView
  pub output_now : SinkView

-- these authorities and streams
abbrev pub streams_of : (List ℕ → List ℕ → List ℕ → Bool) → SourceView → SourceView → SinkView → SinkView → Streams
streams_of accepts input input_now output output_now =
    record { accepts = accepts; input = input; input_now = input_now; output = output; output_now = output_now }

-- a run: its streams, the public key of each key, and the shelf before and after
pub record Run : Type 1 where
  pub streams : Streams
  pub public : List ℕ → List ℕ
  pub shelf : ShelfView
  pub shelf_now : ShelfView

-- a run with these streams, keys and shelves
abbrev pub run_of : Streams → (List ℕ → List ℕ) → ShelfView → ShelfView → Run
run_of streams public shelf shelf_now = record { streams = streams; public = public; shelf = shelf; shelf_now = shelf_now }

-- the output is as it was
abbrev pub NoOutput : Streams → Type 0
NoOutput s = Keeps s.output.holds s.output_now.holds

-- no disk is out, as far as the shelf tells
abbrev pub AreHome : ShelfView → Type 0
AreHome shelf = (id : List ℕ) → IsHome id shelf

-- the shelf is as it was
pub record LeavesShelf (old new : ShelfView) : Type 0 where
  pub counts : Counts old new
  pub faults : new.faults ≡ old.faults
  pub list : KeepsList old new
  pub disks : IsTrue old.honest → KeepsDisks old new

-- the stream of errors was given this line, or a front of it where its count of faults rose
abbrev pub Prints : SinkView → SinkView → List ℕ → Type 0
Prints old new text = Appends old.holds new.holds text ⊎ (Rose old.faults new.faults × AppendsFront old.holds new.holds text)

-- the words of a command line
abbrev pub texts : List (String Global) → List (List ℕ)
texts = map string_bytes
