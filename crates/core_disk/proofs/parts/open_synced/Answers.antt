use Rattle.std.proofs.Common.{refl, subst, ◌∙◌}
use Rattle.disk_trait.specs.declared.disk.Area.TheVariants.{Tree, Blocks as BlocksArea}
use Rattle.oplog_file.proofs.ConsultLaws.{honest_still}
use Rattle.core_disk.specs.InHand.{opened_of}
use Rattle.core_disk.specs.Parts.{Finishes}
use Rattle.core_disk.proofs.OpenLemmas.{loads_opens, finishes_opens}
use Rattle.core_disk.proofs.PartLemmas.{consults_count, counts_then, firm_loaded, stands_read, stands_cut}
use Rattle.core_disk.proofs.parts.open_synced.Goals as goal

pub returns-in-Ok-clause-opens : goal.returns-in-Ok-clause-opens
returns-in-Ok-clause-opens g c honest =
    let old = g.D.Disk.disk c.args.disk.now in
    let mid = g.D.Disk.disk c.load.new.disk in
    let accepts = g.A.Verifier.accepts c.args.verifier.now in
    let still = honest_still old mid _ c.in-Ok.ensures.consults honest in
    let loaded = c.in-Ok.ensures.loads honest in
    finishes_opens accepts c.args.id.now old.reads (opened_of c.in-Ok.state) loaded c.finish.ensures.few c.finish.result
    (subst (λ tree. Finishes accepts tree (opened_of c.in-Ok.state) c.finish.result) ((c.in-Ok.ensures.consults.keeps honest).each Tree).reads (c.finish.ensures.completes loaded.file still (c.in-Ok.ensures.behind loaded.file honest loaded.is_file) loaded.small))

pub returns-in-Ok-clause-firm : goal.returns-in-Ok-clause-firm
returns-in-Ok-clause-firm g c m honest settled stands =
    let old = g.D.Disk.disk c.args.disk.now in
    let mid = g.D.Disk.disk c.load.new.disk in
    let accepts = g.A.Verifier.accepts c.args.verifier.now in
    let still = honest_still old mid _ c.in-Ok.ensures.consults honest in
    let behind = c.in-Ok.ensures.behind stands.file honest stands.is_file in
    firm_loaded accepts c.args.id.now old mid _ m stands settled (c.in-Ok.ensures.consults.keeps honest) c.in-Ok.file behind c.finish.result (c.finish.ensures.cuts stands.file still behind) c.finish.ensures.place

pub returns-in-Ok-clause-blocks : goal.returns-in-Ok-clause-blocks
returns-in-Ok-clause-blocks g c honest =
    let old = g.D.Disk.disk c.args.disk.now in
    let mid = g.D.Disk.disk c.load.new.disk in
    let still = honest_still old mid _ c.in-Ok.ensures.consults honest in
    let loaded = c.in-Ok.ensures.loads honest in
    ((c.finish.ensures.cuts loaded.file still (c.in-Ok.ensures.behind loaded.file honest loaded.is_file)).others BlocksArea refl).reads ∙ ((c.in-Ok.ensures.consults.keeps honest).each BlocksArea).reads

pub returns-in-Ok-clause-counts : goal.returns-in-Ok-clause-counts
returns-in-Ok-clause-counts g c =
    let old = g.D.Disk.disk c.args.disk.now in
    let mid = g.D.Disk.disk c.load.new.disk in
    counts_then old mid _ _ c.finish.result (consults_count old mid _ c.in-Ok.ensures.consults) c.finish.ensures.counts

pub returns-in-Err-clause-opens : goal.returns-in-Err-clause-opens
returns-in-Err-clause-opens g c honest =
    loads_opens (g.A.Verifier.accepts c.args.verifier.now) c.args.id.now (g.D.Disk.disk c.args.disk.now).reads c.in-Err.fault (c.in-Err.ensures.loads honest)

pub returns-in-Err-clause-blocks : goal.returns-in-Err-clause-blocks
returns-in-Err-clause-blocks g c honest = ((c.in-Err.ensures.consults.keeps honest).each BlocksArea).reads

pub returns-in-Err-clause-counts : goal.returns-in-Err-clause-counts
returns-in-Err-clause-counts g c =
    let one = c.in-Err.ensures.consults in
    record { honest = one.honest; kept = one.kept; rose = λ is. one.rose is }

pub returns-in-Ok-clause-any_moment : goal.returns-in-Ok-clause-any_moment
returns-in-Ok-clause-any_moment g c m honest settled stands =
    let old = g.D.Disk.disk c.args.disk.now in
    let mid = g.D.Disk.disk c.load.new.disk in
    let still = honest_still old mid _ c.in-Ok.ensures.consults honest in
    stands_cut (g.A.Verifier.accepts c.args.verifier.now) c.args.id.now old mid m stands settled (c.in-Ok.ensures.consults.keeps honest) _ c.finish.result
    (c.finish.ensures.cuts stands.file still (c.in-Ok.ensures.behind stands.file honest stands.is_file))

pub returns-in-Err-clause-any_moment : goal.returns-in-Err-clause-any_moment
returns-in-Err-clause-any_moment g c m honest settled stands =
    stands_read (g.A.Verifier.accepts c.args.verifier.now) c.args.id.now (g.D.Disk.disk c.args.disk.now) _ m stands settled (c.in-Err.ensures.consults.keeps honest)
