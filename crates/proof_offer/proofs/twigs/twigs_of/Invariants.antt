use Rattle.std.proofs.Common.{◌≡◌, length, take}
use Rattle.log_view.specs.Views.{Keeps}
use Rattle.proof_offer.specs.Parts.{GivesTwigs}
use Rattle.proof_offer.proofs.twigs.twigs_of.Given as goal

-- the view stays, and gave those so far
abbrev pub invariant-loop-at : goal.invariant-loop-at
invariant-loop-at g l = record {
  keeps : Keeps (g.V.View.view l.fn.view) (g.V.View.view l.view);
  count : length l.twigs ≡ l.at;
  gives : GivesTwigs (g.V.View.view l.fn.view).source (take l.at l.numbers) l.twigs;
}
