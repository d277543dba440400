use Rattle.std.proofs.Common.{◌-◌, length}
use Rattle.flat_tree.specs.declared.limits.TheConstants.{MAX_BATCH_BLOCKS}
use Rattle.hypercore_cli.proofs.LogReads.{HasLog}
use Rattle.hypercore_cli.proofs.log.read_lines.Given as goal

abbrev pub invariant-loop-log : goal.invariant-loop-log
invariant-loop-log g l = HasLog (g.I.Source.source l.fn.input) (g.I.Source.source l.input) l.lines l.log

abbrev pub decreases-loop-log : goal.decreases-loop-log
decreases-loop-log g l = MAX_BATCH_BLOCKS - length l.log
