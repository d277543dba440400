use Rattle.std.proofs.Common.{rules, arith, Ok, subst, sym, IsTrue}
use Rattle.disk_trait.specs.declared.disk.Area.{Area}
use Rattle.core_disk.specs.Parts.{IsCleared}
use Rattle.core_disk.proofs.PartLemmas.{turn_more, counts_then}
use Rattle.core_disk.proofs.parts.clear_rest.Goals as goal

pub loop-turn-init : goal.loop-turn-init
loop-turn-init g c = (λ honest area less. absurd (omega (arith, less)), search rules)

pub loop-turn-preserved : goal.loop-turn-preserved
loop-turn-preserved g c =
    let old = g.D.Disk.disk c.args.disk.now in
    let mid = g.D.Disk.disk c.loop-turn.disk in
    let new = g.D.Disk.disk c.clear.new.disk in
    let so_far = c.loop-turn.invariant.1 in (
      λ honest.
          let still = subst (λ b. IsTrue b) (sym so_far.honest) honest in
          turn_more c.loop-turn.turn c.area_at.result (λ (a : Area). IsCleared a mid) (λ (a : Area). IsCleared a new) c.area_at.ensures.turn c.area_at.ensures.only (c.in-Ok.ensures.others still) (c.in-Ok.ensures.cleared still)
          (c.loop-turn.invariant.0 honest),
      counts_then old mid new (Ok tt) (Ok tt) so_far c.in-Ok.ensures.counts,
    )

pub returns-clause-cleared : goal.returns-clause-cleared
returns-clause-cleared g c honest area less = c.loop-turn.invariant.0 honest area (omega (arith, less, c.loop-turn-test.false))

pub returns-in-Err-clause-counts : goal.returns-in-Err-clause-counts
returns-in-Err-clause-counts g c = counts_then _ (g.D.Disk.disk c.loop-turn.disk) _ _ _ c.loop-turn.invariant.1 c.in-Err.ensures.counts
