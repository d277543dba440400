use Rattle.std.proofs.Common.{rules, ◌≡◌, true, false, refl, sym, subst}
use Rattle.std.specs.Prelude.{is_none}
use Rattle.core_forks.specs.Refusals.{clear_refusal}
use Rattle.log_core.specs.Events.Event.{Clear}
use Rattle.log_core.specs.Events.Reply.{Done}
use Rattle.log_core.specs.States.{core_of}
use Rattle.log_core.specs.Acts.{Acts}
use Rattle.log_core.proofs.ClearLemmas.{Planned, none_of, clear_refused, clear_nothing, clear_fits, clear_leads, clear_acts}
use Rattle.log_core.proofs.CutLemmas.{no_refusal}
use Rattle.log_core.proofs.log_core.LogCoreCore.clear.Goals as goal

pub returns-in-Err : goal.returns-in-Err
returns-in-Err g c =
    let core = c.args.self.now in
    clear_refused g.L.Log.TAKES_MEMORY (g.L.View.view core.log) (g.A.Verifier.accepts core.auth) g.L.Log.FILLS core.broken c.in_default.is
    c.args.from c.args.to c.in-Err.fault ((c.in-Err.ensures.refused c.in-Err.fault).0 refl)

pub returns-then-is_none : goal.returns-then-is_none
returns-then-is_none g c =
    let core = c.args.self.now in
    let planned : Planned (g.L.View.view core.log).source c.args.from c.args.to c.in-Ok.change c.root_hash-root.result = record {
      passes = no_refusal (clear_refusal (g.L.View.view core.log).source.content c.args.from c.args.to) c.in-Ok.change (λ fault is. (c.in-Ok.ensures.refused fault).1 is);
      plan_is = c.in-Ok.ensures.change;
      where_held = c.in-Ok.ensures.commit;
      leads = c.in-Ok.ensures.leads;
      legal = c.in-Ok.ensures.legal;
      root_is = c.root_hash-root.ensures;
    } in
    let gone : is_none c.in-Ok.change.commit ≡ true = search rules in
    clear_nothing g.L.Log.TAKES_MEMORY (g.L.View.view core.log) (g.A.Verifier.accepts core.auth) g.L.Log.FILLS core.broken c.in_default.is
    c.args.from c.args.to c.in-Ok.change c.root_hash-root.result planned (none_of c.in-Ok.change.commit gone) c.receipt.result c.receipt.ensures

pub commit-requires-clause-fits : goal.commit-requires-clause-fits
commit-requires-clause-fits g c =
    let core = c.args.self.now in
    let planned : Planned (g.L.View.view core.log).source c.args.from c.args.to c.in-Ok.change c.root_hash-root.result = record {
      passes = no_refusal (clear_refusal (g.L.View.view core.log).source.content c.args.from c.args.to) c.in-Ok.change (λ fault is. (c.in-Ok.ensures.refused fault).1 is);
      plan_is = c.in-Ok.ensures.change;
      where_held = c.in-Ok.ensures.commit;
      leads = c.in-Ok.ensures.leads;
      legal = c.in-Ok.ensures.legal;
      root_is = c.root_hash-root.ensures;
    } in
    let there : is_none c.in-Ok.change.commit ≡ false = search rules in
    clear_fits g.L.Log.TAKES_MEMORY (g.L.View.view core.log) (g.A.Verifier.accepts core.auth) g.L.Log.FILLS core.broken c.in_default.is
    c.args.from c.args.to c.in-Ok.change c.root_hash-root.result planned there

pub commit-requires-clause-leads : goal.commit-requires-clause-leads
commit-requires-clause-leads g c =
    let core = c.args.self.now in
    let planned : Planned (g.L.View.view core.log).source c.args.from c.args.to c.in-Ok.change c.root_hash-root.result = record {
      passes = no_refusal (clear_refusal (g.L.View.view core.log).source.content c.args.from c.args.to) c.in-Ok.change (λ fault is. (c.in-Ok.ensures.refused fault).1 is);
      plan_is = c.in-Ok.ensures.change;
      where_held = c.in-Ok.ensures.commit;
      leads = c.in-Ok.ensures.leads;
      legal = c.in-Ok.ensures.legal;
      root_is = c.root_hash-root.ensures;
    } in
    let there : is_none c.in-Ok.change.commit ≡ false = search rules in
    clear_leads g.L.Log.TAKES_MEMORY (g.L.View.view core.log) (g.A.Verifier.accepts core.auth) g.L.Log.FILLS core.broken c.in_default.is
    c.args.from c.args.to c.in-Ok.change c.root_hash-root.result planned there

pub returns : goal.returns
returns g c =
    let core = c.args.self.now in
    let planned : Planned (g.L.View.view core.log).source c.args.from c.args.to c.in-Ok.change c.root_hash-root.result = record {
      passes = no_refusal (clear_refusal (g.L.View.view core.log).source.content c.args.from c.args.to) c.in-Ok.change (λ fault is. (c.in-Ok.ensures.refused fault).1 is);
      plan_is = c.in-Ok.ensures.change;
      where_held = c.in-Ok.ensures.commit;
      leads = c.in-Ok.ensures.leads;
      legal = c.in-Ok.ensures.legal;
      root_is = c.root_hash-root.ensures;
    } in
    let there : is_none c.in-Ok.change.commit ≡ false = search rules in
    subst (λ (a : g.row.A.Denot). Acts g.L.Log.TAKES_MEMORY (core_of (g.L.View.view core.log) (g.A.Verifier.accepts core.auth) g.L.Log.FILLS core.broken)
    (Clear c.args.from c.args.to) (core_of (g.L.View.view c.commit.new.self.log) (g.A.Verifier.accepts a) g.L.Log.FILLS c.commit.new.self.broken) (Done c.commit.result))
    (sym c.commit.ensures.auth)
    (clear_acts g.L.Log.TAKES_MEMORY (g.L.View.view core.log) (g.A.Verifier.accepts core.auth) g.L.Log.FILLS core.broken c.in_default.is
    c.args.from c.args.to c.in-Ok.change c.root_hash-root.result planned there (g.L.View.view c.commit.new.self.log) c.commit.new.self.broken c.commit.result
    c.commit.ensures.applies c.commit.ensures.receipt c.commit.ensures.breaks)
