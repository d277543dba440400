use Rattle.std.proofs.Common.{rules, arith}
use Rattle.disk_trait.specs.declared.disk.Area.{Area}
use Rattle.disk_trait.specs.Disk.{IsSynced}
use Rattle.disk_trait.proofs.Runs.{rests_synced}
use Rattle.oplog_file.proofs.ConsultLaws.{consults_then, honest_still}
use Rattle.core_disk.proofs.PartLemmas.{all_synced, turn_more}
use Rattle.core_disk.proofs.parts.sync_all.Goals as goal

pub loop-turn-init : goal.loop-turn-init
loop-turn-init g c = (λ honest area less. absurd (omega (arith, less)), search rules)

pub loop-turn-preserved : goal.loop-turn-preserved
loop-turn-preserved g c =
    let old = g.D.Disk.disk c.args.disk.now in
    let mid = g.D.Disk.disk c.loop-turn.disk in
    let new = g.D.Disk.disk c.sync.new.disk in
    let so_far = c.loop-turn.invariant.1 in (
      λ honest.
          let still = honest_still old mid _ so_far honest in
          let keeps = c.in-Ok.ensures.consults.keeps still in
          turn_more c.loop-turn.turn c.area_at.result (λ (a : Area). IsSynced a mid) (λ (a : Area). IsSynced a new) c.area_at.ensures.turn c.area_at.ensures.only
          (λ other apart synced. rests_synced other mid new keeps.time.later (keeps.each other) synced) (c.in-Ok.ensures.synced still) (c.loop-turn.invariant.0 honest),
      consults_then old mid new _ _ so_far c.in-Ok.ensures.consults,
    )

pub returns-clause-settled : goal.returns-clause-settled
returns-clause-settled g c honest = all_synced c.loop-turn.turn (g.D.Disk.disk c.loop-turn.disk) c.loop-turn-test.false (c.loop-turn.invariant.0 honest)

pub returns-in-Err-clause-consults : goal.returns-in-Err-clause-consults
returns-in-Err-clause-consults g c = consults_then _ (g.D.Disk.disk c.loop-turn.disk) _ _ _ c.loop-turn.invariant.1 c.in-Err.ensures.consults
