use Rattle.std.proofs.Common.{rules, ◌≡◌, Ok, Err, subst, arith}
use Rattle.disk_trait.specs.declared.disk.Area.TheVariants.{Oplog}
use Rattle.oplog_file.proofs.ConsultLaws.{consults_then, honest_still}
use Rattle.core_disk.specs.InHand.{opened_of}
use Rattle.core_disk.specs.Replaying.{ReplaysNext}
use Rattle.core_disk.proofs.ReplayLemmas.{replayed_none, replayed_more, replayed_all, replayed_behind, replayed_err, replayed_few, last_here, next_here, consulted_ok, consulted_err}
use Rattle.core_disk.proofs.opening.replay_all.Goals as goal

pub loop-init : goal.loop-init
loop-init g c =
    (λ honest. replayed_none ((g.D.Disk.disk c.args.disk.now).reads Oplog) (opened_of c.args.state.now) c.args.file.now c.args.file.now.epoch c.requires.front, search rules)

pub returns-in-Ok-false-clause-replays : goal.returns-in-Ok-false-clause-replays
returns-in-Ok-false-clause-replays g c honest =
    let old = g.D.Disk.disk c.args.disk.now in
    let mid = g.D.Disk.disk c.loop.disk in
    let so_far = c.loop.invariant.1 in
    let was = c.loop.file in
    let now = c.replay_next.new.file in
    let before = opened_of c.loop.state in
    let after = opened_of c.replay_next.new.state in
    let same : mid.reads Oplog ≡ old.reads Oplog = ((so_far.keeps honest).each Oplog).reads in
    let told = subst (λ l. ReplaysNext l was now before after (Ok c.in-Ok-false.field-0)) same (c.in-Ok-false.ensures.next (honest_still old mid _ so_far honest)) in
    let last = last_here (old.reads Oplog) was now before after c.in-Ok-false.field-0 (search rules) told in
    replayed_all (old.reads Oplog) _ _ was before c.loop.counter (c.loop.invariant.0 honest) after last.0.none last.1

pub returns-in-Ok-false-clause-behind : goal.returns-in-Ok-false-clause-behind
returns-in-Ok-false-clause-behind g c whole honest is_file epoch =
    let old = g.D.Disk.disk c.args.disk.now in
    let mid = g.D.Disk.disk c.loop.disk in
    let so_far = c.loop.invariant.1 in
    let was = c.loop.file in
    let now = c.replay_next.new.file in
    let before = opened_of c.loop.state in
    let after = opened_of c.replay_next.new.state in
    let same : mid.reads Oplog ≡ old.reads Oplog = ((so_far.keeps honest).each Oplog).reads in
    let told = subst (λ l. ReplaysNext l was now before after (Ok c.in-Ok-false.field-0)) same (c.in-Ok-false.ensures.next (honest_still old mid _ so_far honest)) in
    let last = last_here (old.reads Oplog) was now before after c.in-Ok-false.field-0 (search rules) told in
    replayed_behind (old.reads Oplog) _ _ was before c.loop.counter (c.loop.invariant.0 honest) now whole last.0 is_file epoch

pub returns-in-Ok-false-clause-consults : goal.returns-in-Ok-false-clause-consults
returns-in-Ok-false-clause-consults g c =
    consults_then _ (g.D.Disk.disk c.loop.disk) _ _ _ c.loop.invariant.1 (consulted_ok _ _ _ c.in-Ok-false.ensures.consults)

pub returns-in-Err-clause-replays : goal.returns-in-Err-clause-replays
returns-in-Err-clause-replays g c honest =
    let old = g.D.Disk.disk c.args.disk.now in
    let mid = g.D.Disk.disk c.loop.disk in
    let so_far = c.loop.invariant.1 in
    let was = c.loop.file in
    let now = c.replay_next.new.file in
    let before = opened_of c.loop.state in
    let after = opened_of c.replay_next.new.state in
    let same : mid.reads Oplog ≡ old.reads Oplog = ((so_far.keeps honest).each Oplog).reads in
    let told = subst (λ l. ReplaysNext l was now before after (Err c.in-Err.fault)) same (c.in-Err.ensures.next (honest_still old mid _ so_far honest)) in
    replayed_err (old.reads Oplog) _ _ was before c.loop.counter (c.loop.invariant.0 honest) now after c.in-Err.fault told

pub returns-in-Err-clause-consults : goal.returns-in-Err-clause-consults
returns-in-Err-clause-consults g c =
    consults_then _ (g.D.Disk.disk c.loop.disk) _ _ _ c.loop.invariant.1 (consulted_err _ _ _ c.in-Err.ensures.consults)

pub loop-preserved : goal.loop-preserved
loop-preserved g c =
    let old = g.D.Disk.disk c.args.disk.now in
    let mid = g.D.Disk.disk c.loop.disk in
    let so_far = c.loop.invariant.1 in
    let was = c.loop.file in
    let now = c.replay_next.new.file in
    let before = opened_of c.loop.state in
    let after = opened_of c.replay_next.new.state in (
      λ honest.
          let same : mid.reads Oplog ≡ old.reads Oplog = ((so_far.keeps honest).each Oplog).reads in
          let told = subst (λ l. ReplaysNext l was now before after (Ok c.in-Ok-true.field-0)) same (c.in-Ok-true.ensures.next (honest_still old mid _ so_far honest)) in
          replayed_more (old.reads Oplog) _ _ was before c.loop.counter (c.loop.invariant.0 honest) now after
          (next_here (old.reads Oplog) was now before after c.in-Ok-true.field-0 (search rules) told),
      consults_then _ mid _ _ _ so_far (consulted_ok _ _ _ c.in-Ok-true.ensures.consults),
    )

pub returns-clause-replays : goal.returns-clause-replays
returns-clause-replays g c honest =
    absurd (omega (arith, c.loop-test.false, replayed_few ((g.D.Disk.disk c.args.disk.now).reads Oplog) _ _ c.loop.file (opened_of c.loop.state) c.loop.counter (c.loop.invariant.0 honest)))
