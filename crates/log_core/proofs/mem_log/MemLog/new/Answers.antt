use Rattle.std.proofs.Common.{refl}
use Rattle.log_core.proofs.StartLemmas.{empty_kept}
use Rattle.log_core.proofs.mem_log.MemLog.new.Goals as goal

pub invariant_of-result : goal.invariant_of-result
invariant_of-result c = empty_kept _ (record {
  fork = refl;
  none = refl;
  signature = refl;
  held = c.none.ensures;
  nodes = c.new.ensures.values;
  blocks = c.new-2.ensures.items;
  roots = c.new-roots.ensures;
  root = c.root_hash-root.ensures;
})
