use Rattle.std.proofs.Common.{◌≡◌, ℕ, ◌+◌, ◌<◌, ◌≤◌, length, take, ap, ◌∙◌, arith}
use Rattle.std.proofs.lemmas.List.{length-replicate}
use Rattle.merkle_nodes.specs.declared.reading.TheConstants.{MAX_BUNDLE_BYTES}
use Rattle.hypercore_cli.specs.Runs.{streams_of}
use Rattle.hypercore_cli.proofs.BundleReads.{written_over, HasRead-fills, ChecksTo-bytes}
use Rattle.hypercore_cli.proofs.check.check_within.Goals as goal

pub returns-in-Ok-fill : goal.returns-in-Ok-fill
returns-in-Ok-fill g c =
    let into = c.fill.new.into in
    let count = c.in-Ok-fill.count in
    let long : length into ≡ length c.in-Ok.place = c.fill.auto.into ∙ ap length c.bytes_mut.ensures.value in
    let same = c.bytes.ensures ∙ written_over c.in-Ok.place into long in
    let roomy : MAX_BUNDLE_BYTES < length into = omega (arith, c.requires.more, long, ap length c.in-Ok.ensures, length-replicate {A = ℕ} c.args.room 0) in
    let most : length into ≤ MAX_BUNDLE_BYTES + 1 = omega (arith, c.requires.most, long, ap length c.in-Ok.ensures, length-replicate {A = ℕ} c.args.room 0) in
    let r = streams_of (g.K.Keys.key_accepts c.args.keys.now) (g.I.Source.source c.args.input.now) (g.I.Source.source c.fill.new.source)
    (g.O.Sink.sink c.args.output.now) (g.O.Sink.sink c.check_bytes.new.output) in
    let read = HasRead-fills r count into roomy most c.in-Ok-fill.ensures.fills in
    ChecksTo-bytes r c.args.key.now c.check_bytes.result (take count into) read (rw (← same) c.check_bytes.ensures)
