use Rattle.std.proofs.Common.{sym, subst, IsTrue}
use Rattle.core_disk.proofs.PartLemmas.{rests_cleared, is_cleared}
use Rattle.core_disk.proofs.parts.clear.Goals as goal

pub returns-in-Ok-clause-cleared : goal.returns-in-Ok-clause-cleared
returns-in-Ok-clause-cleared g c honest =
    let old = g.D.Disk.disk c.args.disk.now in
    let mid = g.D.Disk.disk c.cut.new.self in
    let new = g.D.Disk.disk c.sync.new.disk in
    let still = subst (λ b. IsTrue b) (sym c.in-Ok.ensures.counts.honest) honest in
    is_cleared c.args.area old mid new c.in-Ok.field-0 c.sync.result (c.in-Ok.ensures.cuts honest) (c.sync.ensures.consults.keeps still) (c.sync.ensures.synced still)

pub returns-in-Ok-clause-others : goal.returns-in-Ok-clause-others
returns-in-Ok-clause-others g c honest other apart cleared =
    let old = g.D.Disk.disk c.args.disk.now in
    let mid = g.D.Disk.disk c.cut.new.self in
    let new = g.D.Disk.disk c.sync.new.disk in
    let still = subst (λ b. IsTrue b) (sym c.in-Ok.ensures.counts.honest) honest in
    let touches = (c.in-Ok.ensures.cuts honest).touches in
    let keeps = c.sync.ensures.consults.keeps still in
    rests_cleared other mid new keeps.time.later (keeps.each other) (rests_cleared other old mid touches.time.later (touches.others other apart) cleared)

pub returns-in-Err-clause-others : goal.returns-in-Err-clause-others
returns-in-Err-clause-others g c honest other apart cleared =
    let old = g.D.Disk.disk c.args.disk.now in
    let mid = g.D.Disk.disk c.cut.new.self in
    let touches = (c.in-Err.ensures.cuts honest).touches in
    rests_cleared other old mid touches.time.later (touches.others other apart) cleared
