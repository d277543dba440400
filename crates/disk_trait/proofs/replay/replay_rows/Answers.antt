use Rattle.std.proofs.Common.{ℕ, nat_lt, sym, ◌∙◌, ap, arith}
use Rattle.std.proofs.lemmas.List.{get_or_default}
use Rattle.disk_trait.specs.Contents.{FilesView}
use Rattle.disk_trait.proofs.Replays.{kept_more}
use Rattle.disk_trait.proofs.replay.replay_rows.Goals as goal

pub replay_row-requires : goal.replay_row-requires
replay_row-requires c = c.requires c.loop-i.i _ (omega arith)

pub loop-i-preserved : goal.loop-i-preserved
loop-i-preserved c = record {
  rest =
      kept_more c.args.payload.now c.args.rows.now c.loop-i.i _ _ _ _ _ _ (omega arith)
      (get_or_default c.args.rows.now c.loop-i.i _ _ (omega arith))
      (c.last_syncs-syncs.ensures _ c.loop-i.i ∙ ap (λ (n : ℕ). nat_lt c.loop-i.i n) (sym c.of.ensures))
      c.in_ok-left.ensures.left (ap (λ (files : FilesView). files.all) c.in_ok-left.ensures.files)
      ∙ c.loop-i.invariant.rest;
  room = ap (λ (files : FilesView). files.room) c.in_ok-left.ensures.files ∙ c.loop-i.invariant.room;
}
