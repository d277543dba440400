use Rattle.std.proofs.Common.{◌≡◌, ◌+◌, ◌-◌, drop, ap, sym, ◌∙◌, arith}
use Rattle.disk_trait.specs.Journal.{has_sync}
use Rattle.disk_trait.proofs.Replays.{last_is, none_is}
use Rattle.disk_trait.proofs.replay.last_sync.Goals as goal

pub returns-then-is_sync_row : goal.returns-then-is_sync_row
returns-then-is_sync_row c =
    let at : c.loop-at.at - 1 + 1 ≡ c.loop-at.at = omega arith in
    last_is c.args.area c.args.rows.now (c.loop-at.at - 1) _ (omega arith) (sym c.is_sync_row.ensures ∙ c.if-is_sync_row.true) (ap (λ n. has_sync c.args.area (drop n c.args.rows.now)) at ∙ c.loop-at.invariant.none)

pub returns : goal.returns
returns c = none_is c.args.area c.args.rows.now c.loop-at.at (omega arith) c.loop-at.invariant.none
