use Rattle.std.proofs.Common.{rules, ◌≡◌, None}
use Rattle.log_core.proofs.ReadLemmas.{read_at_acts}
use Rattle.log_core.proofs.log_core.LogCoreCore.read_at.Goals as goal

pub returns-clause-acts : goal.returns-clause-acts
returns-clause-acts g c =
    let core = c.args.self.now in
    let none : core.broken ≡ None = search rules in
    read_at_acts g.L.Log.TAKES_MEMORY (g.L.View.view core.log) (g.L.View.view c.read_snap.new.view) (g.A.Verifier.accepts core.auth) g.L.Log.FILLS core.broken none
    c.read_snap.ensures.keeps (g.met.L.Log.reports_store core.log) c.args.snap.now c.requires.shape c.args.index c.read_snap.new.out c.read_snap.result
    c.read_snap.ensures.refused c.read_snap.ensures.proved c.read_snap.ensures.root c.read_snap.ensures.gives c.read_snap.ensures.cause
