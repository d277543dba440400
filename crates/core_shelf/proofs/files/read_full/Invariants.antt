use Rattle.std.proofs.Common.{◌≤◌, length}
use Rattle.core_shelf.proofs.files.read_full.Given as goal

abbrev pub invariant-loop : goal.invariant-loop
invariant-loop l = l.end ≤ length l.into
