use Rattle.std.proofs.Common.{rules, ◌≡◌, None}
use Rattle.log_core.proofs.ReadLemmas.{get_acts}
use Rattle.log_core.proofs.log_core.LogCoreCore.get.Goals as goal

pub returns-clause-acts : goal.returns-clause-acts
returns-clause-acts g c =
    let core = c.args.self.now in
    let none : core.broken ≡ None = search rules in
    get_acts g.L.Log.TAKES_MEMORY (g.L.View.view core.log) (g.L.View.view c.read_held.new.view) (g.A.Verifier.accepts core.auth) g.L.Log.FILLS core.broken none
    c.read_held.ensures.keeps (g.met.L.Log.reports_store core.log) c.args.index c.read_held.new.out c.read_held.result
    c.read_held.ensures.proved c.read_held.ensures.gives c.read_held.ensures.cause
