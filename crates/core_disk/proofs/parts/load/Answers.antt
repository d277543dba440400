use Rattle.std.proofs.Common.{List, ℕ, sym, subst}
use Rattle.disk_trait.specs.declared.disk.Area.TheVariants.{Oplog}
use Rattle.oplog_file.specs.Files.{IsFile}
use Rattle.oplog_file.specs.Opening.{Counts}
use Rattle.oplog_file.proofs.ConsultLaws.{consults_then, honest_still}
use Rattle.core_disk.specs.Areas.{Areas}
use Rattle.core_disk.specs.Parts.{Loads}
use Rattle.core_disk.proofs.LoadLemmas.{loads_unopened, counts_file}
use Rattle.core_disk.proofs.PartLemmas.{reads_same}
use Rattle.core_disk.proofs.parts.load.Goals as goal

pub returns-in-Ok-clause-loads : goal.returns-in-Ok-clause-loads
returns-in-Ok-clause-loads g c honest =
    let old = g.D.Disk.disk c.args.disk.now in
    let mid = g.D.Disk.disk c.open_at.new.disk in
    let keeps = c.in-Ok.ensures.consults.keeps honest in
    subst (λ (areas : Areas). Loads c.args.id.now areas c.load_behind.result) (reads_same old mid keeps)
    (c.load_behind.ensures.loads (honest_still old mid _ c.in-Ok.ensures.consults honest)
    (subst (λ (area : List ℕ). Counts area c.in-Ok.file.epoch c.in-Ok.header) (sym (keeps.each Oplog).reads) (c.in-Ok.ensures.opens honest).0))

pub returns-in-Ok-clause-behind : goal.returns-in-Ok-clause-behind
returns-in-Ok-clause-behind g c whole honest is_file =
    let old = g.D.Disk.disk c.args.disk.now in
    let mid = g.D.Disk.disk c.open_at.new.disk in
    let keeps = c.in-Ok.ensures.consults.keeps honest in
    c.load_behind.ensures.behind whole (honest_still old mid _ c.in-Ok.ensures.consults honest)
    (subst (λ (area : List ℕ). IsFile area whole) (sym (keeps.each Oplog).reads) is_file)
    (counts_file (old.reads Oplog) c.in-Ok.file.epoch c.in-Ok.header whole (c.in-Ok.ensures.opens honest).0 is_file)

pub returns-in-Ok-clause-consults : goal.returns-in-Ok-clause-consults
returns-in-Ok-clause-consults g c =
    consults_then (g.D.Disk.disk c.args.disk.now) (g.D.Disk.disk c.open_at.new.disk) _ _ c.load_behind.result c.in-Ok.ensures.consults c.load_behind.ensures.consults

pub returns-in-Err-clause-loads : goal.returns-in-Err-clause-loads
returns-in-Err-clause-loads g c honest = loads_unopened c.args.id.now (g.D.Disk.disk c.args.disk.now).reads c.in-Err.fault (c.in-Err.ensures.opens honest)
