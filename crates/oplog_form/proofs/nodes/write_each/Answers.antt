use Rattle.std.proofs.Common.{Err, sym, subst}
use Rattle.compact_enc.specs.Written.{Writes}
use Rattle.compact_enc.proofs.Writing.{writes_stop, writes_then}
use Rattle.oplog_form.specs.Nodes.{root_spelling}
use Rattle.oplog_form.proofs.NodeLoops.{flat_map-split}
use Rattle.oplog_form.proofs.nodes.write_each.Goals as goal

pub returns-in-Err : goal.returns-in-Err
returns-in-Err c =
    subst (λ text. Writes {A = Unit {0}} text c.args.to.now c.write_root.new.to (Err c.in-Err.full)) (sym (flat_map-split root_spelling c.args.roots.now c.loop-root.root-index _ c.loop-root-test.true))
    (writes_then _ _ _ _ _ _ _ c.loop-root.invariant (writes_stop _ _ _ _ _ c.in-Err.ensures))
