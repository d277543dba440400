-- What is seen of the program's own streams: what their reader or writer tells, their count of faults, and how their single
-- calls ended.
use Rattle.std.specs.Prelude.{◌≡◌, ◌≤◌, ◌-◌, ◌^◌, ◌⊎◌, ℕ, List, Option, None, Result, Ok, Err, MatchResult}
use Rattle.outside_traits.specs.Faults.{count_fault}
use Rattle.outside_traits.specs.Streams.{SourceView, SinkView}
use Rattle.outside_traits.specs.declared.calls.Counts.{Counts}
use Rattle.outside_traits.specs.declared.calls.Stop.{Stop}
use Rattle.outside_traits.specs.declared.calls.Stop.TheVariants.{Interrupted, Failed}

-- a source over a reader with these bytes left, where it tells
abbrev pub reader_view : Option (List ℕ) → ℕ → SourceView
reader_view bytes count = record { given = None; left = bytes; faults = count }

-- a sink over a writer that holds these bytes, where it tells
abbrev pub writer_view : Option (List ℕ) → ℕ → SinkView
writer_view bytes count = record { holds = bytes; faults = count }

-- an interrupted call and one that failed are counted, each as what it is
abbrev pub CountsCall : Counts → Counts → Result ℕ Stop → Type 0
CountsCall old new (Ok n) = (new.interrupted ≡ old.interrupted) × (new.failed ≡ old.failed)
CountsCall old new (Err Interrupted) = (new.interrupted ≡ count_fault old.interrupted) × (new.failed ≡ old.failed)
CountsCall old new (Err Failed) = (new.interrupted ≡ old.interrupted) × (new.failed ≡ count_fault old.failed)

-- Behind an Err one call failed, or so many were interrupted that their count stands at its type's end; behind an Ok none failed.
abbrev pub FailsBy : {T E : Type 0} → Counts → Counts → Result T E → Type 0
FailsBy old new answer = MatchResult answer (λ _. new.failed ≡ old.failed)
    (λ _. (new.failed ≡ count_fault old.failed) ⊎ (2 ^ 64 - 1 ≤ new.interrupted))
