-- What a source over a list does when it gives the next bytes of it.
use Rattle.std.proofs.Common.{◌≡◌, ℕ, ◌+◌, ◌-◌, ◌≤◌, List, ◌++◌, length, take, drop, min, Ok, refl, sym, ap, ◌∙◌, arith, take-append-drop, length-append, length-drop}
use Rattle.std.proofs.lemmas.List.{length-take-le, drop_all}
use Rattle.std.proofs.Math.Seq.{take-add, drop-drop, take_at}
use Rattle.outside_traits.specs.Streams.{SourceView, Reads}
use Rattle.outside_traits.specs.Sure.{sure_source_view_of}
use Rattle.outside_traits.specs.declared.failed.Failed.{Failed}

-- the source over these bytes, of which so many were given
abbrev pub source_at : List ℕ → ℕ → SourceView
source_at bytes at = sure_source_view_of (record { given = take at bytes; left = drop at bytes })

-- the n next bytes lie at the front of the place, as many as it has room for
pub record Gives (bytes into piece : List ℕ) (at n : ℕ) : Type 0 where
  pub within : at ≤ length bytes
  pub count : n ≡ min (length into) (length (drop at bytes))
  pub piece_is : piece ≡ take n (drop at bytes)

pub Reads-gives : (bytes into piece : List ℕ) (at n : ℕ) → Gives bytes into piece at n
    → Reads {E = Failed} (source_at bytes at) (source_at bytes (at + n)) (Ok n) (piece ++ drop n into)
Reads-gives bytes into piece at n h =
    let rest = drop at bytes in
    let room : n ≤ length into = omega (arith, h.count) in
    let enough : n ≤ length rest = omega (arith, h.count) in
    let long : length piece ≡ n = ap length h.piece_is ∙ length-take-le n rest enough in
    let front : take n (piece ++ drop n into) ≡ piece = take_at piece (drop n into) n long in
    let size : length (piece ++ drop n into) ≡ n + (length into - n) = length-append piece (drop n into) ∙ ap (λ k. k + length (drop n into)) long ∙ ap (λ k. n + k) (length-drop n into) in
    let more : drop n rest ≡ drop (at + n) bytes = drop-drop n at bytes in
    record {
      within = omega (arith, size);
      given = take-add at n bytes ∙ ap (λ l. take at bytes ++ l) (sym (front ∙ h.piece_is));
      left = (
        sym (take-append-drop n rest) ∙ ap (λ l. l ++ drop n rest) (sym (front ∙ h.piece_is)) ∙ ap (λ l. take n (piece ++ drop n into) ++ l) more,
        λ none some. sym more ∙ drop_all n rest (omega (arith, h.count, none, some, size)),
      );
      faults = record { kept = omega arith; one = refl };
    }
