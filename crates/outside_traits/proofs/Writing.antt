-- What a sink holds while all of some bytes are written to it.
use Rattle.std.proofs.Common.{◌≡◌, ◌≢◌, ℕ, List, [], ◌∷◌, ◌++◌, take, drop, Ok, Err, refl, sym, ap, ◌∙◌, arith, take-append-drop, append_assoc, append-nil}
use Rattle.std.specs.Io.KnownBytes.{Appends}
use Rattle.std.proofs.KnownBytes.{Appends-nil, Appends-trans, Appends-kept}
use Rattle.outside_traits.specs.Faults.{count_fault}
use Rattle.outside_traits.specs.Streams.{SinkView, Writes, WritesAll}

-- so far the sink was given what stands in front of the rest, and nothing where there is nothing, and no fault came
pub record HasWritten (old now : SinkView) (bytes rest : List ℕ) : Type 0 where
  pub front : List ℕ
  pub splits : bytes ≡ front ++ rest
  pub holds : Appends old.holds now.holds front
  pub same : now.faults ≡ old.faults
  pub none : bytes ≡ [] → now ≡ old

pub HasWritten-start : (view : SinkView) (bytes : List ℕ) → HasWritten view view bytes bytes
HasWritten-start view bytes = record { front = []; splits = refl; holds = Appends-nil view.holds; same = refl; none = λ _. refl }

-- the bytes aren't empty where a rest of them isn't
rest_of_none : (bytes front rest : List ℕ) → bytes ≡ front ++ rest → bytes ≡ [] → rest ≡ []
rest_of_none bytes [] rest splits none = sym splits ∙ none
rest_of_none bytes (x ∷ front) rest splits none = cc

pub HasWritten-step : {E : Type 0} (old now next : SinkView) (bytes rest : List ℕ) (n : ℕ)
    → HasWritten old now bytes rest → Writes {E = E} now next (Ok n) rest → rest ≢ [] → HasWritten old next bytes (drop n rest)
HasWritten-step old now next bytes rest n so_far write some = record {
  front = so_far.front ++ take n rest;
  splits = so_far.splits ∙ ap (λ l. so_far.front ++ l) (sym (take-append-drop n rest)) ∙ sym (append_assoc so_far.front (take n rest) (drop n rest));
  holds = Appends-trans _ _ _ so_far.front (take n rest) so_far.holds write.holds;
  same = write.faults.one ∙ so_far.same;
  none = λ none. absurd (some (rest_of_none bytes so_far.front rest so_far.splits none));
}

pub WritesAll-done : {E : Type 0} (old now : SinkView) (bytes rest : List ℕ)
    → HasWritten old now bytes rest → rest ≡ [] → WritesAll {T = Unit {0}} {E = E} old now (Ok tt) bytes
WritesAll-done old now bytes rest so_far none =
    let all : bytes ≡ so_far.front = so_far.splits ∙ ap (λ l. so_far.front ++ l) none ∙ append-nil so_far.front in
    record { holds = rw all so_far.holds; faults = record { kept = omega (arith, so_far.same); one = so_far.same } }

pub WritesAll-failed : {T E : Type 0} (old now next : SinkView) (bytes rest : List ℕ) (e : E)
    → HasWritten old now bytes rest → Writes now next (Err e) rest → WritesAll {T = T} old next (Err e) bytes
WritesAll-failed old now next bytes rest e so_far write = record {
  holds = (so_far.front, rest, so_far.splits, Appends-kept _ _ _ so_far.front so_far.holds write.holds);
  faults = record { kept = omega (arith, so_far.same, write.faults.kept); one = write.faults.one ∙ ap count_fault so_far.same };
}
