use Rattle.std.proofs.Common.{◌≡◌, List, OnOk, ap, subst}
use Rattle.disk_trait.specs.Crash.{kept}
use Rattle.disk_trait.specs.History.{Step}
use Rattle.disk_trait.specs.Journal.{JournalView}
use Rattle.disk_trait.proofs.Replays.{rows_replayed, rows_taken}
use Rattle.disk_trait.proofs.journal.Journal.replay.Goals as goal

pub replay_rows-requires : goal.replay_rows-requires
replay_rows-requires c = rows_taken _ _ _ _ _ _ c.args.moment c.args.self.now.steps c.deref-3.ensures.value c.deref.ensures.value c.deref-2.ensures.value c.self.invariant.bytes

pub returns : goal.returns
returns c =
    subst (λ (steps : List Step). OnOk c.replay_rows.result (c.replay_rows.new.files ≡ record { all = kept c.args.keep steps c.args.files.now.all; room = c.args.files.now.room }))
    (rows_replayed _ _ _ _ _ _ c.args.moment c.args.self.now.steps c.deref-3.ensures.value c.deref.ensures.value c.deref-2.ensures.value (c.rows_before-count.ensures.rows c.self.inside.payload.items) (ap (λ (journal : JournalView). journal.steps) c.self.view_is))
    c.replay_rows.ensures
