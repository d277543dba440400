use Rattle.std.proofs.Common.{◌∙◌, refl, sym, arith}
use Rattle.oplog_file.proofs.FillLaws.{given_back}
use Rattle.oplog_file.proofs.WriteLaws.{adds_written}
use Rattle.oplog_file.proofs.file.OplogFile.append.Goals as goal

pub returns-in-Err-clause-adds : goal.returns-in-Err-clause-adds
returns-in-Err-clause-adds g c = λ file honest behind.
    adds_written _ _ file _ _ _ _ _ _ (g.met.D.Disk.may_stay c.args.disk.now honest) behind (sym c.self.view_is) c.self.ranges.0.1 (omega (arith, c.self.invariant.each, c.self.invariant.within))
    c.requires.some c.requires.few c.requires.room refl (given_back _ _ _ _ _ _ c.deref.ensures.value (c.fill.ensures.size ∙ c.deref_mut.ensures.len) c.fill.ensures.spelled) (c.in-Err.ensures.stores honest)

pub returns-clause-adds : goal.returns-clause-adds
returns-clause-adds g c = λ file honest behind.
    adds_written _ _ file _ _ _ _ _ _ (g.met.D.Disk.may_stay c.args.disk.now honest) behind (sym c.self.view_is) c.self.ranges.0.1 (omega (arith, c.self.invariant.each, c.self.invariant.within))
    c.requires.some c.requires.few c.requires.room refl (given_back _ _ _ _ _ _ c.deref.ensures.value (c.fill.ensures.size ∙ c.deref_mut.ensures.len) c.fill.ensures.spelled) (c.in_default.ensures.stores honest)
