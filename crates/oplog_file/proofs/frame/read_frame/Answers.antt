use Rattle.std.proofs.Common.{take, drop, refl, sym, ap, ◌∙◌, ℕ, Option, Some, arith}
use Rattle.std.specs.Int.{w32, from_le_bytes}
use Rattle.std.proofs.lemmas.Bool.{iff_false}
use Rattle.oplog_file.specs.Frames.{Frame}
use Rattle.oplog_file.specs.Fronts.{payload_in}
use Rattle.oplog_file.proofs.HeadLaws.{front_too_much, front_missing, front_unchecked, front_whole}
use Rattle.oplog_file.proofs.frame.read_frame.Goals.{then-payload_len-max-via-then-payload_len-max, then-payload_len-max-via-else-payload_len-max+then-payload_len-bytes}
use Rattle.oplog_file.proofs.frame.read_frame.Goals as goal

pub returns-then-bytes-lt-FRAME_HEAD_BYTES-clause-told : goal.returns-then-bytes-lt-FRAME_HEAD_BYTES-clause-told
returns-then-bytes-lt-FRAME_HEAD_BYTES-clause-told c = front_missing c.args.max c.args.bytes.now _ refl (omega (arith, c.if-bytes-lt-FRAME_HEAD_BYTES.true))

pub returns-then-payload_len-max-clause-told : goal.returns-then-payload_len-max-clause-told
returns-then-payload_len-max-clause-told c = elim c.then-payload_len-max.branch [
  | then-payload_len-max-via-then-payload_len-max w ↦ front_too_much c.args.max c.args.bytes.now _ c.u32_at-payload_len.ensures (omega (arith, w.if-payload_len-max))
  | then-payload_len-max-via-else-payload_len-max+then-payload_len-bytes w ↦ front_missing c.args.max c.args.bytes.now _ c.u32_at-payload_len.ensures (omega (arith, w.if-payload_len-bytes, c.if-bytes-lt-FRAME_HEAD_BYTES.false))
]

pub returns-then-not-has_check-clause-told : goal.returns-then-not-has_check-clause-told
returns-then-not-has_check-clause-told c = front_unchecked c.args.max c.args.bytes.now _ c.u32_at-payload_len.ensures (iff_false c.has_check.ensures c.if-not-has_check.true)

pub returns-clause-told : goal.returns-clause-told
returns-clause-told c =
    let bytes = c.args.bytes.now in
    let frame : ℕ → ℕ → Option Frame = λ e n. Some (record { epoch = e; number = n; payload = payload_in c.u32_at-payload_len.result bytes }) in
    front_whole c.args.max bytes c.u32_at-payload_len.result c.u32_at-payload_len.ensures (omega (arith, c.if-payload_len-max.false)) (omega (arith, c.if-payload_len-bytes.false, c.if-bytes-lt-FRAME_HEAD_BYTES.false)) (c.has_check.ensures.0 c.if-not-has_check.false)
    ∙ ap (λ e. frame e (from_le_bytes w32 (take 4 (drop 28 bytes)))) (sym c.u64_at.ensures) ∙ ap (λ n. frame c.u64_at.result n) (sym c.u32_at.ensures)
