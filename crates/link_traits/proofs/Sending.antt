-- What a link holds while all of some bytes are written to it.
use Rattle.std.proofs.Common.{◌≡◌, ◌≢◌, ℕ, List, [], ◌∷◌, ◌++◌, take, drop, Result, Ok, Err, refl, sym, ap, ◌∙◌, arith, take-append-drop, append_assoc, append-nil}
use Rattle.std.specs.Io.KnownBytes.{Appends}
use Rattle.std.proofs.KnownBytes.{Appends-nil, Appends-trans, Appends-kept}
use Rattle.outside_traits.specs.Faults.{count_fault}
use Rattle.link_traits.specs.Links.{LinkView, Sends}
use Rattle.link_traits.specs.LinkCalls.{KeepsReading, SendsAll}

-- so far the link was given what stands in front of the rest, and nothing where there is nothing, and no fault came
pub record HasSent (old now : LinkView) (bytes rest : List ℕ) : Type 0 where
  pub front : List ℕ
  pub splits : bytes ≡ front ++ rest
  pub written : Appends old.written now.written front
  pub same : now.faults ≡ old.faults
  pub keeps : KeepsReading old now
  pub none : bytes ≡ [] → now ≡ old

pub HasSent-start : (view : LinkView) (bytes : List ℕ) → HasSent view view bytes bytes
HasSent-start view bytes = record {
  front = [];
  splits = refl;
  written = Appends-nil view.written;
  same = refl;
  keeps = record { origin = refl; given = refl; left = refl; ended = refl };
  none = λ _. refl;
}

-- the bytes aren't empty where a rest of them isn't
rest_of_none : (bytes front rest : List ℕ) → bytes ≡ front ++ rest → bytes ≡ [] → rest ≡ []
rest_of_none bytes [] rest splits none = sym splits ∙ none
rest_of_none bytes (x ∷ front) rest splits none = cc

-- a write leaves the other direction
KeepsReading-write : {E : Type 0} (old now next : LinkView) (answer : Result ℕ E) (rest : List ℕ)
    → KeepsReading old now → Sends now next answer rest → KeepsReading old next
KeepsReading-write old now next answer rest keeps write = record {
  origin = write.stays.origin ∙ keeps.origin;
  given = write.given ∙ keeps.given;
  left = write.left ∙ keeps.left;
  ended = write.stays.ended ∙ keeps.ended;
}

pub HasSent-step : {E : Type 0} (old now next : LinkView) (bytes rest : List ℕ) (n : ℕ)
    → HasSent old now bytes rest → Sends {E = E} now next (Ok n) rest → rest ≢ [] → HasSent old next bytes (drop n rest)
HasSent-step old now next bytes rest n so_far write some = record {
  front = so_far.front ++ take n rest;
  splits = so_far.splits ∙ ap (λ l. so_far.front ++ l) (sym (take-append-drop n rest)) ∙ sym (append_assoc so_far.front (take n rest) (drop n rest));
  written = Appends-trans _ _ _ so_far.front (take n rest) so_far.written write.writes.holds;
  same = write.writes.faults.one ∙ so_far.same;
  keeps = KeepsReading-write old now next (Ok n) rest so_far.keeps write;
  none = λ none. absurd (some (rest_of_none bytes so_far.front rest so_far.splits none));
}

pub SendsAll-done : {E : Type 0} (old now : LinkView) (bytes rest : List ℕ)
    → HasSent old now bytes rest → rest ≡ [] → SendsAll {T = Unit {0}} {E = E} old now (Ok tt) bytes
SendsAll-done old now bytes rest so_far none =
    let all : bytes ≡ so_far.front = so_far.splits ∙ ap (λ l. so_far.front ++ l) none ∙ append-nil so_far.front in
    record {
      writes = record { holds = rw all so_far.written; faults = record { kept = omega (arith, so_far.same); one = so_far.same } };
      keeps = so_far.keeps;
      none = so_far.none;
    }

pub SendsAll-failed : {T E : Type 0} (old now next : LinkView) (bytes rest : List ℕ) (e : E)
    → HasSent old now bytes rest → Sends now next (Err e) rest → rest ≢ [] → SendsAll {T = T} old next (Err e) bytes
SendsAll-failed old now next bytes rest e so_far write some = record {
  writes = record {
    holds = (so_far.front, rest, so_far.splits, Appends-kept _ _ _ so_far.front so_far.written write.writes.holds);
    faults = record { kept = omega (arith, so_far.same, write.writes.faults.kept); one = write.writes.faults.one ∙ ap count_fault so_far.same };
  };
  keeps = KeepsReading-write old now next (Err e) rest so_far.keeps write;
  none = λ none. absurd (some (rest_of_none bytes so_far.front rest so_far.splits none));
}
