-- What is seen of the forms in memory: their bytes, and which of their calls are to fail.
use Rattle.std.specs.Prelude.{ℕ, List, Some}
use Rattle.outside_traits.specs.Streams.{SourceView, SinkView}

-- a source in memory: the bytes given and left, the numbers of the calls that are to fail, how many calls were made,
-- and how many failed
pub record MemSourceView : Type 0 where
  pub given : List ℕ
  pub left : List ℕ
  pub planned : List ℕ
  pub made : ℕ
  pub faults : ℕ

-- it tells all that a source may tell
abbrev pub source_view_of : MemSourceView → SourceView
source_view_of source = record { given = Some source.given; left = Some source.left; faults = source.faults }

-- a sink in memory: the bytes held, how many it may hold, and its calls as above
pub record MemSinkView : Type 0 where
  pub holds : List ℕ
  pub room : ℕ
  pub planned : List ℕ
  pub made : ℕ
  pub faults : ℕ

-- it tells what it holds
abbrev pub sink_view_of : MemSinkView → SinkView
sink_view_of sink = record { holds = Some sink.holds; faults = sink.faults }
