use Rattle.std.proofs.Common.{◌≡◌, take, length}
use Rattle.proof_check.specs.Growth.{nodes_at}
use Rattle.proof_check.proofs.upgrade.numbered.Given as goal

abbrev pub invariant-loop-place : goal.invariant-loop-place
invariant-loop-place l = record {
  nodes : l.added ≡ nodes_at (take l.place l.places) (take l.place l.twigs);
  count : length l.added ≡ l.place;
}
