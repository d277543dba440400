use Rattle.std.proofs.Common.{rules, ◌≡◌, ℕ, List, [], None, Some, sym, subst}
use Rattle.std.specs.Prelude.{IsTrue}
use Rattle.commit_book.specs.declared.commit.Commit.TheVariants.{Truncate}
use Rattle.merkle_nodes.specs.declared.node.Node.{Node}
use Rattle.node_set.specs.Changes.{truncate_content}
use Rattle.log_change.specs.LogChange.{IsChange, signed}
use Rattle.core_forks.specs.Refusals.{truncate_refusal}
use Rattle.log_core.specs.Events.Event.{Truncate as Cut}
use Rattle.log_core.specs.Events.Reply.{Done}
use Rattle.log_core.specs.States.{core_of}
use Rattle.log_core.specs.Acts.{Acts}
use Rattle.log_core.proofs.CutLemmas.{Planned, no_refusal, cut_refused, planned_fits, planned_leads, planned_acts}
use Rattle.log_core.proofs.log_core.LogCoreCore.truncate.Goals as goal

pub returns-in-Err : goal.returns-in-Err
returns-in-Err g c =
    let core = c.args.self.now in
    let none : core.broken ≡ None = search rules in
    cut_refused g.L.Log.TAKES_MEMORY (g.L.View.view core.log) (g.L.View.view c.truncate.new.view) (g.A.Verifier.accepts core.auth) g.L.Log.FILLS core.broken none
    c.in-Err.ensures.answers.keeps c.args.to c.args.fork (g.met.L.Log.reports_store core.log) c.in-Err.fault c.in-Err.ensures.answers.failed

pub commit-requires-clause-fits : goal.commit-requires-clause-fits
commit-requires-clause-fits g c =
    let s = (g.L.View.view c.args.self.now.log).source in
    let planned : Planned s (g.A.Verifier.accepts c.args.self.now.auth) c.args.to c.args.fork c.as_slice.result.now c.in-Ok.change c.sign-change.result c.root_hash-root.result =
    record {
      passes = no_refusal (truncate_refusal s.content c.args.to c.args.fork) c.in-Ok.change c.in-Ok.ensures.answers.refused;
      plan_is = c.in-Ok.ensures.change;
      given = c.in-Ok.ensures.roots;
      legal = c.in-Ok.ensures.legal;
      leads = subst (λ (ns : List Node). IsTrue s.shows → (signature : List ℕ) → IsChange s.content
          (truncate_content c.args.to c.args.fork signature s.content) (Some (Truncate c.args.to c.args.fork)) [] ns (signed signature c.in-Ok.change))
          (sym c.as_slice.ensures.items) c.in-Ok.ensures.leads;
      final_is = c.sign-change.ensures.signed;
      root_is = c.root_hash-root.ensures;
      long = c.sign-change.ensures.size;
      accepted = c.sign-change.ensures.accepted;
    }
    in
    planned_fits (g.L.View.view c.args.self.now.log) (g.L.View.view c.truncate.new.view) c.in-Ok.ensures.answers.keeps (g.A.Verifier.accepts c.args.self.now.auth)
    c.args.to c.args.fork c.as_slice.result.now c.in-Ok.change c.sign-change.result c.root_hash-root.result planned

pub commit-requires-clause-leads : goal.commit-requires-clause-leads
commit-requires-clause-leads g c =
    let s = (g.L.View.view c.args.self.now.log).source in
    let planned : Planned s (g.A.Verifier.accepts c.args.self.now.auth) c.args.to c.args.fork c.as_slice.result.now c.in-Ok.change c.sign-change.result c.root_hash-root.result =
    record {
      passes = no_refusal (truncate_refusal s.content c.args.to c.args.fork) c.in-Ok.change c.in-Ok.ensures.answers.refused;
      plan_is = c.in-Ok.ensures.change;
      given = c.in-Ok.ensures.roots;
      legal = c.in-Ok.ensures.legal;
      leads = subst (λ (ns : List Node). IsTrue s.shows → (signature : List ℕ) → IsChange s.content
          (truncate_content c.args.to c.args.fork signature s.content) (Some (Truncate c.args.to c.args.fork)) [] ns (signed signature c.in-Ok.change))
          (sym c.as_slice.ensures.items) c.in-Ok.ensures.leads;
      final_is = c.sign-change.ensures.signed;
      root_is = c.root_hash-root.ensures;
      long = c.sign-change.ensures.size;
      accepted = c.sign-change.ensures.accepted;
    }
    in
    planned_leads (g.L.View.view c.args.self.now.log) (g.L.View.view c.truncate.new.view) c.in-Ok.ensures.answers.keeps (g.A.Verifier.accepts c.args.self.now.auth)
    c.args.to c.args.fork c.as_slice.result.now c.in-Ok.change c.sign-change.result c.root_hash-root.result planned

pub returns : goal.returns
returns g c =
    let core = c.args.self.now in
    let s = (g.L.View.view core.log).source in
    let none : core.broken ≡ None = search rules in
    let planned : Planned s (g.A.Verifier.accepts core.auth) c.args.to c.args.fork c.as_slice.result.now c.in-Ok.change c.sign-change.result c.root_hash-root.result =
    record {
      passes = no_refusal (truncate_refusal s.content c.args.to c.args.fork) c.in-Ok.change c.in-Ok.ensures.answers.refused;
      plan_is = c.in-Ok.ensures.change;
      given = c.in-Ok.ensures.roots;
      legal = c.in-Ok.ensures.legal;
      leads = subst (λ (ns : List Node). IsTrue s.shows → (signature : List ℕ) → IsChange s.content
          (truncate_content c.args.to c.args.fork signature s.content) (Some (Truncate c.args.to c.args.fork)) [] ns (signed signature c.in-Ok.change))
          (sym c.as_slice.ensures.items) c.in-Ok.ensures.leads;
      final_is = c.sign-change.ensures.signed;
      root_is = c.root_hash-root.ensures;
      long = c.sign-change.ensures.size;
      accepted = c.sign-change.ensures.accepted;
    }
    in
    subst (λ (a : g.row.A.Denot). Acts g.L.Log.TAKES_MEMORY (core_of (g.L.View.view core.log) (g.A.Verifier.accepts core.auth) g.L.Log.FILLS core.broken)
    (Cut c.args.to c.args.fork) (core_of (g.L.View.view c.commit.new.self.log) (g.A.Verifier.accepts a) g.L.Log.FILLS c.commit.new.self.broken) (Done c.commit.result))
    (sym c.commit.ensures.auth)
    (planned_acts (g.L.View.view core.log) (g.L.View.view c.truncate.new.view) c.in-Ok.ensures.answers.keeps (g.A.Verifier.accepts core.auth)
    c.args.to c.args.fork c.as_slice.result.now c.in-Ok.change c.sign-change.result c.root_hash-root.result planned
    g.L.Log.TAKES_MEMORY (g.L.View.view c.commit.new.self.log) g.L.Log.FILLS core.broken c.commit.new.self.broken none c.commit.result
    c.commit.ensures.applies c.commit.ensures.receipt c.commit.ensures.breaks)
