-- What is seen of the forms that never fail.
use Rattle.std.specs.Prelude.{ℕ, List, Some, None}
use Rattle.outside_traits.specs.Streams.{SourceView, SinkView}

-- the bytes given, and those left
pub record SureSourceView : Type 0 where
  pub given : List ℕ
  pub left : List ℕ

-- it tells its bytes, and its count of faults is 0
abbrev pub sure_source_view_of : SureSourceView → SourceView
sure_source_view_of source = record { given = Some source.given; left = Some source.left; faults = 0 }

-- it tells nothing, and its count of faults is 0
abbrev pub sure_sink_view : SinkView
sure_sink_view = record { holds = None; faults = 0 }
