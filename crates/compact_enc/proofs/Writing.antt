-- Writing one text behind the other.
use Rattle.std.proofs.Common.{◌≡◌, true, false, ℕ, ◌≤◌, List, [], ◌++◌, length, take, Result, Ok, Err, refl, sym, ap, subst, ◌∙◌, append_assoc, append-nil, length-append, arith}
use Rattle.std.specs.Prelude.{IsErr}
use Rattle.std.proofs.lemmas.List.{take_at, take-take, length-take-le}
use Rattle.compact_enc.specs.declared.encoder.Encoder.{Encoder}
use Rattle.compact_enc.specs.declared.encoder.Full.{Full}
use Rattle.compact_enc.specs.Written.{written, Puts, SameBuffer, Writes}

SameBuffer-then : (old mid new : Encoder) → SameBuffer old mid → SameBuffer mid new → SameBuffer old new
SameBuffer-then old mid new p q = record { name = q.name ∙ p.name; length = q.length ∙ p.length }

-- what was written stays below a place
kept : (old mid new : Encoder) (text : List ℕ) → old.place ≤ mid.place → written mid ≡ written old ++ text → take mid.place new.into.now ≡ written mid
    → take old.place new.into.now ≡ written old
kept old mid new text above was stays =
    sym (take-take old.place mid.place new.into.now above)
    ∙ ap (take old.place) (stays ∙ was)
    ∙ take_at (written old) text old.place (length-take-le old.place old.into.now old.within)

-- what a call of the encoder does
pub writes_put : {A : Type 0} (text : List ℕ) (old new : Encoder) (r : Result A Full) → SameBuffer old new → Puts text old new r → Writes text old new r
writes_put text old new (Ok done) same puts = record { buffer = same; puts = puts }
writes_put text old new (Err full) same puts = record {
  buffer = same;
  puts = (puts.0, omega (arith, puts.1), subst (λ n. take n new.into.now ≡ written old) puts.1 puts.2);
}

-- the first text finds no room
pub writes_stop : {A : Type 0} (text more : List ℕ) (old new : Encoder) (full : Full) → Writes {A = A} text old new (Err full) → Writes {A = A} (text ++ more) old new (Err full)
writes_stop text more old new full w = record {
  buffer = w.buffer;
  puts = (omega (arith, w.puts.0, length-append text more), w.puts.1, w.puts.2);
}

-- some answer that is no Ok
pub writes_fail : {A : Type 0} (text : List ℕ) (old new : Encoder) (full : Full) (r : Result A Full) → IsErr r → Writes {A = A} text old new (Err full) → Writes text old new r
writes_fail text old new full (Ok done) is w = let apart : false ≡ true = is in cc
writes_fail text old new full (Err other) is w = record { buffer = w.buffer; puts = w.puts }

-- the first text is written, and then the other
pub writes_then : {A B : Type 0} (text more : List ℕ) (old mid new : Encoder) (done : A) (r : Result B Full)
    → Writes text old mid (Ok done) → Writes more mid new r → Writes (text ++ more) old new r
writes_then text more old mid new done (Ok all) p q = record {
  buffer = SameBuffer-then old mid new p.buffer q.buffer;
  puts = (
    omega (arith, p.puts.0, p.puts.1, q.puts.0, p.buffer.length, length-append text more),
    omega (arith, p.puts.1, q.puts.1, length-append text more),
    q.puts.2 ∙ ap (λ l. l ++ more) p.puts.2 ∙ append_assoc (written old) text more,
  );
}
writes_then text more old mid new done (Err full) p q = record {
  buffer = SameBuffer-then old mid new p.buffer q.buffer;
  puts = (
    omega (arith, p.puts.0, p.puts.1, q.puts.0, p.buffer.length, length-append text more),
    omega (arith, p.puts.1, q.puts.1),
    kept old mid new text (omega (arith, p.puts.1)) p.puts.2 q.puts.2,
  );
}

-- all of the text is taken back where it finds no room
pub puts_back : {A : Type 0} (text : List ℕ) (old mid new : Encoder) (full : Full) → Writes {A = A} text old mid (Err full)
    → new.place ≡ old.place → new.into ≡ mid.into → Puts {A = A} text old new (Err full) × SameBuffer old new
puts_back text old mid new full w place into = (
  (w.puts.0, place, ap (λ n. take n new.into.now) place ∙ ap (λ i. take old.place i.now) into ∙ w.puts.2),
  record { name = ap (λ i. i.ghost_name) into ∙ w.buffer.name; length = ap (λ i. length i.now) into ∙ w.buffer.length },
)
