use Rattle.std.proofs.Common.{Err, inr, sym, subst, ◌∙◌}
use Rattle.disk_trait.specs.declared.disk.Area.TheVariants.{Blocks as BlocksArea}
use Rattle.node_set.specs.declared.fault.CoreFault.{CoreFault}
use Rattle.oplog_file.proofs.ConsultLaws.{honest_still}
use Rattle.core_disk.specs.Areas.{Areas}
use Rattle.core_disk.specs.Standing.{StandsFor}
use Rattle.core_disk.specs.Parts.{OpensStore}
use Rattle.core_disk.proofs.OpenLemmas.{if_store, gives_store}
use Rattle.core_disk.proofs.PartLemmas.{reads_same, consults_count, counts_then, counts_err, stays_or_stands, stays_read}
use Rattle.core_disk.proofs.parts.open_parts.Goals as goal

pub returns-in-Ok-clause-opens : goal.returns-in-Ok-clause-opens
returns-in-Ok-clause-opens g c honest =
    let old = g.D.Disk.disk c.args.disk.now in
    let mid = g.D.Disk.disk c.sync_all.new.disk in
    subst (λ (areas : Areas). OpensStore (g.A.Verifier.accepts c.args.verifier.now) c.args.id.now areas c.open_synced.result) (reads_same old mid (c.in-Ok.ensures.consults.keeps honest))
    (c.open_synced.ensures.opens (honest_still old mid _ c.in-Ok.ensures.consults honest))

pub returns-in-Ok-clause-firm : goal.returns-in-Ok-clause-firm
returns-in-Ok-clause-firm g c m honest stands =
    let old = g.D.Disk.disk c.args.disk.now in
    let mid = g.D.Disk.disk c.sync_all.new.disk in
    c.open_synced.ensures.firm m (honest_still old mid _ c.in-Ok.ensures.consults honest) (c.in-Ok.ensures.settled honest)
    (subst (λ (areas : Areas). StandsFor (g.A.Verifier.accepts c.args.verifier.now) c.args.id.now areas m) (sym (reads_same old mid (c.in-Ok.ensures.consults.keeps honest))) stands)

pub returns-in-Ok-clause-opened : goal.returns-in-Ok-clause-opened
returns-in-Ok-clause-opened g c m honest stands =
    if_store (g.A.Verifier.accepts c.args.verifier.now) c.args.id.now (g.D.Disk.disk c.args.disk.now).reads m stands c.open_synced.result (returns-in-Ok-clause-opens g c honest)

pub returns-in-Ok-clause-gives : goal.returns-in-Ok-clause-gives
returns-in-Ok-clause-gives g c m honest stands =
    gives_store (g.A.Verifier.accepts c.args.verifier.now) c.args.id.now (g.D.Disk.disk c.args.disk.now).reads m stands c.open_synced.result (returns-in-Ok-clause-opens g c honest)

pub returns-in-Ok-clause-blocks : goal.returns-in-Ok-clause-blocks
returns-in-Ok-clause-blocks g c honest =
    let old = g.D.Disk.disk c.args.disk.now in
    let mid = g.D.Disk.disk c.sync_all.new.disk in
    c.open_synced.ensures.blocks (honest_still old mid _ c.in-Ok.ensures.consults honest) ∙ ((c.in-Ok.ensures.consults.keeps honest).each BlocksArea).reads

pub returns-in-Ok-clause-counts : goal.returns-in-Ok-clause-counts
returns-in-Ok-clause-counts g c =
    let old = g.D.Disk.disk c.args.disk.now in
    let mid = g.D.Disk.disk c.sync_all.new.disk in
    counts_then old mid _ _ c.open_synced.result (consults_count old mid _ c.in-Ok.ensures.consults) c.open_synced.ensures.counts

pub returns-in-Err-clause-opens : goal.returns-in-Err-clause-opens
returns-in-Err-clause-opens g c honest =
    subst (λ (f : CoreFault). OpensStore (g.A.Verifier.accepts c.args.verifier.now) c.args.id.now (g.D.Disk.disk c.args.disk.now).reads (Err f)) (sym c.in-Err.ensures.store) tt

pub returns-in-Err-clause-gives : goal.returns-in-Err-clause-gives
returns-in-Err-clause-gives g c m honest stands = inr c.in-Err.ensures.store

pub returns-in-Err-clause-blocks : goal.returns-in-Err-clause-blocks
returns-in-Err-clause-blocks g c honest = ((c.in-Err.ensures.consults.keeps honest).each BlocksArea).reads

pub returns-in-Err-clause-counts : goal.returns-in-Err-clause-counts
returns-in-Err-clause-counts g c = counts_err (g.D.Disk.disk c.args.disk.now) _ c.in-Err.fault (consults_count _ _ _ c.in-Err.ensures.consults)

pub returns-in-Ok-clause-any_moment : goal.returns-in-Ok-clause-any_moment
returns-in-Ok-clause-any_moment g c m honest stands =
    let old = g.D.Disk.disk c.args.disk.now in
    let mid = g.D.Disk.disk c.sync_all.new.disk in
    let accepts = g.A.Verifier.accepts c.args.verifier.now in
    let keeps = c.in-Ok.ensures.consults.keeps honest in
    stays_or_stands accepts c.args.id.now old mid _ m keeps
    (c.open_synced.ensures.any_moment m (honest_still old mid _ c.in-Ok.ensures.consults honest) (c.in-Ok.ensures.settled honest)
    (subst (λ (areas : Areas). StandsFor accepts c.args.id.now areas m) (sym (reads_same old mid keeps)) stands))

pub returns-in-Err-clause-any_moment : goal.returns-in-Err-clause-any_moment
returns-in-Err-clause-any_moment g c m honest stands =
    stays_read (g.A.Verifier.accepts c.args.verifier.now) c.args.id.now (g.D.Disk.disk c.args.disk.now) _ m (c.in-Err.ensures.consults.keeps honest)
