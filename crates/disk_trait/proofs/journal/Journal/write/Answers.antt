use Rattle.std.proofs.Common.{◌≡◌, length, ◌∷◌, ap, arith, ◌∙◌, rules, length-append}
use Rattle.std.proofs.lemmas.List.{length_push}
use Rattle.disk_trait.specs.History.{wrote}
use Rattle.disk_trait.specs.Journal.{JournalView}
use Rattle.disk_trait.proofs.Rows.{written_steps, written_rows}
use Rattle.disk_trait.proofs.journal.Journal.write.Goals as goal

from_is : (c : goal.After-self-1) → c.len-from.result ≡ length c.self.inside.payload.items
from_is c = search rules

pub invariant_of-self : goal.invariant_of-self
invariant_of-self c = record {
  bytes = written_rows _ _ _ _ _ _ _ _ _ c.self.invariant.bytes c.push_bytes.ensures.items (from_is c) c.push_row.ensures.items c.requires.end;
  rows_room = omega (arith, c.self.invariant.rows_room, c.push_row.ensures.capacity, ap length c.push_row.ensures.items ∙ length_push _ _);
  payload_room = omega (arith, c.self.invariant.payload_room, c.push_bytes.ensures.capacity, ap length c.push_bytes.ensures.items, length-append c.self.inside.payload.items c.args.bytes.now);
}

pub returns-clause-steps : goal.returns-clause-steps
returns-clause-steps c =
    written_steps _ _ _ _ _ _ _ _ _ c.self.invariant.bytes c.push_bytes.ensures.items (from_is c) c.push_row.ensures.items
    ∙ ap (λ (journal : JournalView). record { call = c.args.call; area = c.args.area; change = wrote c.args.at c.args.bytes.now } ∷ journal.steps) c.self.view_is
