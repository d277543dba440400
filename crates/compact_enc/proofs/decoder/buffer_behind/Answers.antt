use Rattle.std.proofs.Common.{◌≡◌, ℕ, ◌≤◌, List, ◌++◌, length, ap, ◌∙◌, arith, Bor}
use Rattle.compact_enc.specs.Spelling.{buffer_spelling}
use Rattle.compact_enc.specs.Reading.{buffer_at}
use Rattle.compact_enc.proofs.Steps.{if_given}
use Rattle.compact_enc.proofs.Spellings.{buffer_again}
use Rattle.compact_enc.proofs.Alone.{yields_given, buffer_found, found_within}
use Rattle.compact_enc.proofs.decoder.buffer_behind.Goals as goal

pub returns-clause-found : goal.returns-clause-found
returns-clause-found c =
    let bytes = c.args.bytes.now in
    if_given (λ (x : Bor (List ℕ) × Bor (List ℕ)). (x.0.now, x.1.now)) c.buffer_from.result (buffer_at c.args.max c.args.at bytes) (λ y. bytes ≡ buffer_spelling y.0 ++ y.1) c.buffer_from.ensures
    (buffer_found c.args.max c.args.at bytes (λ i. omega (arith, c.type_inv.bytes i)))

pub returns-clause-within : goal.returns-clause-within
returns-clause-within c =
    let bytes = c.args.bytes.now in
    let read = buffer_at c.args.max c.args.at bytes in
    if_given (λ (x : Bor (List ℕ) × Bor (List ℕ)). (x.0.now, x.1.now)) c.buffer_from.result read (λ y. length y.1 ≤ length bytes) c.buffer_from.ensures
    (found_within buffer_spelling bytes read (buffer_found c.args.max c.args.at bytes (λ i. omega (arith, c.type_inv.bytes i))))

pub returns-clause-only : goal.returns-clause-only
returns-clause-only c = λ front more below is.
    yields_given (λ (x : Bor (List ℕ) × Bor (List ℕ)). (x.0.now, x.1.now)) c.buffer_from.result (buffer_at c.args.max c.args.at c.args.bytes.now) (front, more) c.buffer_from.ensures
    (ap (buffer_at c.args.max c.args.at) is ∙ buffer_again c.args.max c.args.at front more below (omega (arith, below, c.ranges.max)))
