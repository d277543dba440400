use Rattle.std.proofs.Common.{◌≡◌, ◌+◌, take}
use Rattle.node_set.specs.Contents.{roots, bytes_under}
use Rattle.log_view.proofs.seeking.root_with.Given as goal

-- the roots so far are before the byte
abbrev pub invariant-loop-place : goal.invariant-loop-place
invariant-loop-place g l = bytes_under (take l.place (roots (g.V.View.view l.view).source.content)) + l.rest ≡ l.byte
