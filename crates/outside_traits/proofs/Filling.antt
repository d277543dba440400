-- What a place holds while it is filled from a source.
use Rattle.std.proofs.Common.{◌≡◌, ℕ, ◌+◌, ◌≤◌, ◌<◌, List, ◌++◌, length, take, Ok, Err, inl, inr, refl, sym, ap, ◌∙◌, subst, arith, length-append}
use Rattle.std.proofs.lemmas.List.{length-take-le, take-append-le}
use Rattle.std.proofs.Math.Seq.{take-append-add, take_at}
use Rattle.std.proofs.KnownBytes.{Appends-nil, Consumes-nil, Appends-trans, Consumes-trans, Appends-kept, Consumes-kept}
use Rattle.outside_traits.specs.Faults.{count_fault}
use Rattle.outside_traits.specs.Streams.{SourceView, Reads, Moves, Fills}

-- so far the bytes at the front of the place are the source's next ones, and no fault came
pub record HasFilled (old now : SourceView) (into : List ℕ) (at : ℕ) : Type 0 where
  pub moves : Moves old now into at
  pub same : now.faults ≡ old.faults

pub HasFilled-start : (view : SourceView) (into : List ℕ) → HasFilled view view into 0
HasFilled-start view into = record { moves = record { within = omega arith; given = Appends-nil view.given; left = Consumes-nil view.left }; same = refl }

pub HasFilled-step : {E : Type 0} (old now next : SourceView) (into piece tail : List ℕ) (at n : ℕ)
    → HasFilled old now into at → Reads {E = E} now next (Ok n) piece → HasFilled old next (take at into ++ (piece ++ tail)) (at + n)
HasFilled-step old now next into piece tail at n so_far read =
    let head = take at into in
    let long : length head ≡ at = length-take-le at into so_far.moves.within in
    let joined : take (at + n) (head ++ (piece ++ tail)) ≡ head ++ take n piece =
    ap (λ k. take (k + n) (head ++ (piece ++ tail))) (sym long) ∙ take-append-add head (piece ++ tail) n ∙ ap (λ l. head ++ l) (take-append-le n piece tail read.within) in
    record {
      moves = record {
        within = omega (arith, long, length-append head (piece ++ tail), length-append piece tail, read.within);
        given = rw joined (Appends-trans _ _ _ head (take n piece) so_far.moves.given read.given);
        left = rw joined (Consumes-trans _ _ _ head (take n piece) so_far.moves.left read.left.0);
      };
      same = read.faults.one ∙ so_far.same;
    }

pub Fills-full : {E : Type 0} (old now : SourceView) (into : List ℕ) (at : ℕ)
    → HasFilled old now into at → length into ≤ at → Fills {E = E} old now (Ok at) into
Fills-full old now into at so_far full = record {
  moves = so_far.moves;
  full_or_end = inl (omega (arith, full, so_far.moves.within));
  faults = record { kept = omega (arith, so_far.same); one = so_far.same };
}

pub Fills-end : {E : Type 0} (old now next : SourceView) (into piece tail : List ℕ) (at : ℕ)
    → HasFilled old now into at → Reads {E = E} now next (Ok 0) piece → 0 < length piece
    → Fills {E = E} old next (Ok at) (take at into ++ (piece ++ tail))
Fills-end old now next into piece tail at so_far read some =
    let step : HasFilled old next (take at into ++ (piece ++ tail)) at = subst (HasFilled old next (take at into ++ (piece ++ tail))) (omega arith) (HasFilled-step old now next into piece tail at 0 so_far read) in
    record {
      moves = step.moves;
      full_or_end = inr (read.left.1 refl some);
      faults = record { kept = omega (arith, step.same); one = step.same };
    }

pub Fills-failed : {E : Type 0} (old now next : SourceView) (into piece tail : List ℕ) (at : ℕ) (e : E)
    → HasFilled old now into at → Reads now next (Err e) piece → Fills old next (Err e) (take at into ++ (piece ++ tail))
Fills-failed old now next into piece tail at e so_far read =
    let long : length (take at into) ≡ at = length-take-le at into so_far.moves.within in
    let front : take at (take at into ++ (piece ++ tail)) ≡ take at into = take_at (take at into) (piece ++ tail) at long in
    record {
      moves = (
        at,
        record {
          within = omega (arith, long, length-append (take at into) (piece ++ tail));
          given = rw front (Appends-kept _ _ _ (take at into) so_far.moves.given read.given);
          left = rw front (Consumes-kept _ _ _ (take at into) so_far.moves.left read.left);
        },
      );
      full_or_end = tt;
      faults = record { kept = omega (arith, so_far.same, read.faults.kept); one = read.faults.one ∙ ap count_fault so_far.same };
    }
