-- What was read into the place for a bundle, and what its check comes to.
use Rattle.std.proofs.Common.{◌≡◌, ℕ, ◌+◌, ◌<◌, ◌≤◌, List, length, take, ◌++◌, drop, Ok, inl, inr, arith}
use Rattle.std.proofs.lemmas.List.{length-take-le}
use Rattle.std.proofs.Math.Seq.{take_at}
use Rattle.outside_traits.specs.Faults.{count_fault, Rose}
use Rattle.outside_traits.specs.Streams.{Fills}
use Rattle.merkle_nodes.specs.declared.reading.TheConstants.{MAX_BUNDLE_BYTES}
use Rattle.hypercore_cli.specs.declared.outcome.Outcome.{Outcome}
use Rattle.hypercore_cli.specs.declared.outcome.Outcome.TheVariants.{Done, Usage, ReadFault, WriteFault, StoreFault, BadForm, NotProved, BadSignature, NoCore, CoreExists, OutOfRange, Unavailable, Limit, BadStore, Damaged, NoMemory}
use Rattle.hypercore_cli.specs.Runs.{Streams}
use Rattle.hypercore_cli.specs.Checks.{HasRead, ChecksBytes, ChecksTo}

-- a count that one fault was added to rose
pub count_rose : (before now : ℕ) → now ≡ count_fault before → Rose before now
count_rose before now is = rw is (omega arith)

-- a place that was written over as a whole
pub written_over : (old new : List ℕ) → length new ≡ length old → take (length old) (new ++ drop (length new) old) ≡ new
written_over old new same = take_at new (drop (length new) old) (length old) same

pub HasRead-fills : {E : Type 0} (r : Streams) (count : ℕ) (into : List ℕ) → MAX_BUNDLE_BYTES < length into → length into ≤ MAX_BUNDLE_BYTES + 1
    → Fills {E = E} r.input r.input_now (Ok count) into → HasRead r (take count into)
HasRead-fills r count into room most fills =
    let size : length (take count into) ≡ count = length-take-le count into fills.moves.within in
    record {
      few = omega (arith, size, fills.moves.within, most);
      told = fills.moves.left;
      whole = elim fills.full_or_end [ inl full ↦ inl (omega (arith, size, full, room)) | inr end ↦ inr end ];
    }

pub ChecksTo-bytes : (r : Streams) (key : List ℕ) (outcome : Outcome) (bytes : List ℕ) → HasRead r bytes
    → ChecksBytes (r.accepts key) bytes r.output r.output_now outcome → ChecksTo r key outcome
ChecksTo-bytes r key Done bytes was checks = (bytes, was, checks)
ChecksTo-bytes r key Usage bytes was checks = absurd checks
ChecksTo-bytes r key ReadFault bytes was checks = absurd checks
ChecksTo-bytes r key WriteFault bytes was checks = (bytes, was, checks)
ChecksTo-bytes r key (BadForm at) bytes was checks = (bytes, was, checks)
ChecksTo-bytes r key (NotProved index want have) bytes was checks = (bytes, was, checks)
ChecksTo-bytes r key BadSignature bytes was checks = (bytes, was, checks)
ChecksTo-bytes r key StoreFault bytes was checks = absurd checks
ChecksTo-bytes r key NoCore bytes was checks = absurd checks
ChecksTo-bytes r key CoreExists bytes was checks = absurd checks
ChecksTo-bytes r key (OutOfRange end) bytes was checks = absurd checks
ChecksTo-bytes r key (Unavailable index) bytes was checks = absurd checks
ChecksTo-bytes r key (Limit what max) bytes was checks = absurd checks
ChecksTo-bytes r key (BadStore area at) bytes was checks = absurd checks
ChecksTo-bytes r key (Damaged place want have) bytes was checks = absurd checks
ChecksTo-bytes r key NoMemory bytes was checks = absurd checks
