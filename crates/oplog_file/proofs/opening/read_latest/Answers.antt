use Rattle.std.proofs.Common.{◌+◌, ◌-◌, drop, Ok, Err, refl, sym, ap, ◌∙◌, arith}
use Rattle.std.proofs.lemmas.List.{length-take, length-drop}
use Rattle.oplog_file.specs.Opening.{header_payload_at, header_told}
use Rattle.oplog_file.proofs.BadPlaces.{header_bad}
use Rattle.oplog_file.proofs.OpenLaws.{header_tells, slice_same}
use Rattle.oplog_file.proofs.opening.read_latest.Goals as goal

pub overflow_add-result : goal.overflow_add-result
overflow_add-result c = omega (arith, c.in-Some.ensures.within, c.requires, c.payload_at-at.ensures, header_bad _ c.in-Err.bad c.in-Err.ensures.exact, length-take (c.payload_at-at.result + c.in-Some.front.payload_len - c.payload_at-at.result) (drop c.payload_at-at.result c.args.slots.now), length-drop c.payload_at-at.result c.args.slots.now)

pub returns-in-Ok-clause-header : goal.returns-in-Ok-clause-header
returns-in-Ok-clause-header c = record {
  frame = header_told c.args.slots.now c.in-Some.front;
  found = c.in-Some.ensures.told;
  epoch_is = refl;
  header_is = header_tells c.args.slots.now _ c.in-Some.front (Ok c.in-Ok.header) c.in-Some.ensures.told (slice_same c.payload_at-at.result (header_payload_at c.in-Some.front.epoch) c.in-Some.front.payload_len c.args.slots.now c.payload_at-at.ensures) c.in-Ok.ensures.exact;
}

pub returns-in-Err-clause-header : goal.returns-in-Err-clause-header
returns-in-Err-clause-header c = (refl, header_tells c.args.slots.now _ c.in-Some.front (Err c.in-Err.bad) c.in-Some.ensures.told (slice_same c.payload_at-at.result (header_payload_at c.in-Some.front.epoch) c.in-Some.front.payload_len c.args.slots.now c.payload_at-at.ensures) c.in-Err.ensures.exact ∙ ap (λ n. Err (n + c.in-Err.bad.at)) (sym c.payload_at-at.ensures))
