use Rattle.std.proofs.Common.{◌≡◌, ℕ, ◌≤◌, List, ◌++◌, length, ap, ◌∙◌, arith, Bor}
use Rattle.compact_enc.specs.Spelling.{uint_spelling}
use Rattle.compact_enc.specs.Reading.{uint_at}
use Rattle.compact_enc.proofs.Steps.{if_given}
use Rattle.compact_enc.proofs.Spellings.{uint_again}
use Rattle.compact_enc.proofs.Alone.{yields_given, uint_found, uint_within, found_within}
use Rattle.compact_enc.proofs.decoder.uint_behind.Goals as goal

pub returns-clause-found : goal.returns-clause-found
returns-clause-found c =
    let bytes = c.args.bytes.now in
    if_given (λ (x : ℕ × Bor (List ℕ)). (x.0, x.1.now)) c.uint_from.result (uint_at c.args.max c.args.at bytes) (λ y. bytes ≡ uint_spelling y.0 ++ y.1) c.uint_from.ensures
    (uint_found c.args.max c.args.at bytes (λ i. omega (arith, c.type_inv.bytes i)))

pub returns-clause-max : goal.returns-clause-max
returns-clause-max c =
    let bytes = c.args.bytes.now in
    if_given (λ (x : ℕ × Bor (List ℕ)). (x.0, x.1.now)) c.uint_from.result (uint_at c.args.max c.args.at bytes) (λ y. y.0 ≤ c.args.max) c.uint_from.ensures
    (uint_within c.args.max c.args.at bytes (λ i. omega (arith, c.type_inv.bytes i)))

pub returns-clause-within : goal.returns-clause-within
returns-clause-within c =
    let bytes = c.args.bytes.now in
    let read = uint_at c.args.max c.args.at bytes in
    if_given (λ (x : ℕ × Bor (List ℕ)). (x.0, x.1.now)) c.uint_from.result read (λ y. length y.1 ≤ length bytes) c.uint_from.ensures
    (found_within uint_spelling bytes read (uint_found c.args.max c.args.at bytes (λ i. omega (arith, c.type_inv.bytes i))))

pub returns-clause-only : goal.returns-clause-only
returns-clause-only c = λ n more below is.
    yields_given (λ (x : ℕ × Bor (List ℕ)). (x.0, x.1.now)) c.uint_from.result (uint_at c.args.max c.args.at c.args.bytes.now) (n, more) c.uint_from.ensures
    (ap (uint_at c.args.max c.args.at) is ∙ uint_again c.args.max c.args.at n more below (omega (arith, below, c.ranges.max)))
