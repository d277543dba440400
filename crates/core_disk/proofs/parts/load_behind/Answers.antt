use Rattle.std.proofs.Common.{List, ℕ, Err, sym, subst}
use Rattle.disk_trait.specs.declared.disk.Area.TheVariants.{Oplog}
use Rattle.oplog_file.specs.Files.{IsFile}
use Rattle.oplog_file.proofs.ConsultLaws.{consults_then, honest_still}
use Rattle.core_disk.specs.Areas.{copy_of}
use Rattle.core_disk.specs.InHand.{opened_of}
use Rattle.core_disk.specs.Starting.{IsStart, Starts}
use Rattle.core_disk.specs.Replaying.{IsReplayed, TellsBad}
use Rattle.core_disk.proofs.LoadLemmas.{loaded, loads_bad, loads_unstarted}
use Rattle.core_disk.proofs.PartLemmas.{consults_ok, consults_err}
use Rattle.core_disk.proofs.parts.load_behind.Goals as goal

pub returns-in-Ok-replay_all-clause-loads : goal.returns-in-Ok-replay_all-clause-loads
returns-in-Ok-replay_all-clause-loads g c honest counts =
    let old = g.D.Disk.disk c.args.disk.now in
    let mid = g.D.Disk.disk c.start_state.new.disk in
    let first = opened_of c.in-Ok.state in
    let keeps = c.in-Ok.ensures.consults.keeps honest in
    loaded c.args.id.now old.reads c.args.file.epoch c.args.header.now counts first (opened_of c.replay_all.new.state)
    (subst (λ (n : ℕ). IsStart c.args.id.now n c.args.header.now (old.reads (copy_of n)) first) c.epoch.ensures (c.in-Ok.ensures.starts honest))
    (subst (λ (area : List ℕ). IsReplayed area c.args.file.epoch first (opened_of c.replay_all.new.state)) (keeps.each Oplog).reads
    (c.in-Ok-replay_all.ensures.replays (honest_still old mid _ c.in-Ok.ensures.consults honest)))

pub returns-in-Ok-replay_all-clause-behind : goal.returns-in-Ok-replay_all-clause-behind
returns-in-Ok-replay_all-clause-behind g c whole honest is_file epoch =
    let old = g.D.Disk.disk c.args.disk.now in
    let mid = g.D.Disk.disk c.start_state.new.disk in
    let keeps = c.in-Ok.ensures.consults.keeps honest in
    c.in-Ok-replay_all.ensures.behind whole (honest_still old mid _ c.in-Ok.ensures.consults honest)
    (subst (λ (area : List ℕ). IsFile area whole) (sym (keeps.each Oplog).reads) is_file) epoch

pub returns-in-Ok-replay_all-clause-consults : goal.returns-in-Ok-replay_all-clause-consults
returns-in-Ok-replay_all-clause-consults g c =
    let old = g.D.Disk.disk c.args.disk.now in
    let mid = g.D.Disk.disk c.start_state.new.disk in
    let new = g.D.Disk.disk c.replay_all.new.disk in
    consults_then old mid new _ _ c.in-Ok.ensures.consults (consults_ok mid new c.in-Ok-replay_all.field-0 _ c.in-Ok-replay_all.ensures.consults)

pub returns-in-Err-replay_all-clause-loads : goal.returns-in-Err-replay_all-clause-loads
returns-in-Err-replay_all-clause-loads g c honest counts =
    let old = g.D.Disk.disk c.args.disk.now in
    let mid = g.D.Disk.disk c.start_state.new.disk in
    let first = opened_of c.in-Ok.state in
    let keeps = c.in-Ok.ensures.consults.keeps honest in
    loads_bad c.args.id.now old.reads c.args.file.epoch c.args.header.now counts first c.in-Err-replay_all.fault
    (subst (λ (n : ℕ). IsStart c.args.id.now n c.args.header.now (old.reads (copy_of n)) first) c.epoch.ensures (c.in-Ok.ensures.starts honest))
    (subst (λ (area : List ℕ). TellsBad area c.args.file.epoch first c.in-Err-replay_all.fault) (keeps.each Oplog).reads
    (c.in-Err-replay_all.ensures.replays (honest_still old mid _ c.in-Ok.ensures.consults honest)))

pub returns-in-Err-replay_all-clause-consults : goal.returns-in-Err-replay_all-clause-consults
returns-in-Err-replay_all-clause-consults g c =
    let old = g.D.Disk.disk c.args.disk.now in
    let mid = g.D.Disk.disk c.start_state.new.disk in
    let new = g.D.Disk.disk c.replay_all.new.disk in
    consults_then old mid new _ _ c.in-Ok.ensures.consults (consults_err mid new c.in-Err-replay_all.fault c.in-Err-replay_all.ensures.consults)

pub returns-in-Err-clause-loads : goal.returns-in-Err-clause-loads
returns-in-Err-clause-loads g c honest counts =
    let old = g.D.Disk.disk c.args.disk.now in
    loads_unstarted c.args.id.now old.reads c.args.file.epoch c.args.header.now counts c.in-Err.fault
    (subst (λ (n : ℕ). Starts c.args.id.now n c.args.header.now old.reads (Err c.in-Err.fault)) c.epoch.ensures (c.in-Err.ensures.starts honest))
