use Rattle.std.proofs.Common.{length, map, Some, refl, ap, sym, subst, arith}
use Rattle.flat_tree.specs.Roots.{roots_below, full_roots_of}
use Rattle.merkle_nodes.specs.declared.node.Node.{Node}
use Rattle.merkle_nodes.specs.Nodes.{bytes_under}
use Rattle.std.specs.List.{AllByRecursion}
use Rattle.merkle_batch.specs.Batch.{SizeFits}
use Rattle.merkle_batch.proofs.Held.{HasBlocks-none}
use Rattle.merkle_batch.proofs.batch.Batch.new.Goals as goal

pub invariant_of-result : goal.invariant_of-result
unfolding full_roots_of roots_below
invariant_of-result c = record {
  in_room = omega arith;
  within = omega arith;
  few_bytes = omega arith;
  total_is = ap bytes_under (sym c.new.ensures);
  most = omega arith;
  shape = ap (map (λ (node : Node). node.index)) c.new.ensures;
  roots_fit = subst (AllByRecursion SizeFits) (sym c.new.ensures) tt;
  nodes_fit = subst (AllByRecursion SizeFits) (sym c.in-Ok.ensures.items) tt;
  memory = omega (arith, c.min-most.ensures, c.in-Ok.ensures.capacity);
  filled = omega (arith, ap length c.new.ensures, ap length c.in-Ok.ensures.items);
}

pub returns-in-Ok-clause-held : goal.returns-in-Ok-clause-held
unfolding full_roots_of roots_below
returns-in-Ok-clause-held c known = HasBlocks-none known _ refl refl c.in-Ok.ensures.items (ap (map Some) c.new.ensures)
