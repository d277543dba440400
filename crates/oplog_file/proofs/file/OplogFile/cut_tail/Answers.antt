use Rattle.std.proofs.Common.{sym, subst, refl}
use Rattle.oplog_file.specs.Writers.{Place, IsBehind}
use Rattle.oplog_file.proofs.WriteLaws.{cuts_tail}
use Rattle.oplog_file.proofs.file.OplogFile.cut_tail.Goals as goal

pub returns-clause-cuts : goal.returns-clause-cuts
returns-clause-cuts g c = λ file honest behind.
    cuts_tail _ file _ _ _ _ (g.met.D.Disk.may_stay c.args.disk.now honest) (subst (λ (p : Place). IsBehind p file) (sym c.self.view_is) behind) refl (c.trim.ensures.trims honest)
