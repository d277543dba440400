use Rattle.std.proofs.Common.{◌≡◌, ℕ, ◌≤◌, List, ◌++◌, length, ap, ◌∙◌, arith, Bor}
use Rattle.compact_enc.specs.Reading.{bytes_at}
use Rattle.compact_enc.proofs.Steps.{if_given}
use Rattle.compact_enc.proofs.Steps.{bytes_again}
use Rattle.compact_enc.proofs.Alone.{yields_given, bytes_found, found_within}
use Rattle.compact_enc.proofs.decoder.bytes_behind.Goals as goal

pub returns-clause-found : goal.returns-clause-found
returns-clause-found c =
    let bytes = c.args.bytes.now in
    if_given (λ (x : Bor (List ℕ) × Bor (List ℕ)). (x.0.now, x.1.now)) c.bytes_from.result (bytes_at c.args.count c.args.at bytes) (λ y. bytes ≡ y.0 ++ y.1) c.bytes_from.ensures.gives
    (bytes_found c.args.count c.args.at bytes (λ i. omega (arith, c.type_inv.bytes i)))

pub returns-clause-within : goal.returns-clause-within
returns-clause-within c =
    let bytes = c.args.bytes.now in
    let read = bytes_at c.args.count c.args.at bytes in
    if_given (λ (x : Bor (List ℕ) × Bor (List ℕ)). (x.0.now, x.1.now)) c.bytes_from.result read (λ y. length y.1 ≤ length bytes) c.bytes_from.ensures.gives
    (found_within (λ front. front) bytes read (bytes_found c.args.count c.args.at bytes (λ i. omega (arith, c.type_inv.bytes i))))

pub returns-clause-only : goal.returns-clause-only
returns-clause-only c = λ front more len is.
    yields_given (λ (x : Bor (List ℕ) × Bor (List ℕ)). (x.0.now, x.1.now)) c.bytes_from.result (bytes_at c.args.count c.args.at c.args.bytes.now) (front, more) c.bytes_from.ensures.gives
    (ap (bytes_at c.args.count c.args.at) is ∙ bytes_again front more c.args.count c.args.at len)
