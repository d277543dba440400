use Rattle.std.proofs.Common.{◌≡◌, nat_eq, Result, OnOk, subst, ◌∙◌}
use Rattle.indexmap.specs.IndexMap.{insert_entry}
use Rattle.indexmap.proofs.CallerLemmas.{insert_entry-new}
use Rattle.fetch_plan.proofs.in_flight.put_last.Goals as goal

pub returns-clause-entries : goal.returns-clause-entries
returns-clause-entries c =
    let old = c.args.requests.now in
    subst (λ (r : Result _ _). OnOk r (c.insert.new.self.entries ≡ insert_entry nat_eq old.entries c.args.id c.args.index)) c.unwrap.ensures c.insert.ensures.entries
    ∙ insert_entry-new nat_eq old c.args.id c.args.index c.requires.new
