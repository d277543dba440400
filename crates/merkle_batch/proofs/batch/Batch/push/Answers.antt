use Rattle.std.proofs.Common.{refl, ap}
use Rattle.merkle_nodes.specs.Roots.{twig_of}
use Rattle.merkle_batch.proofs.Held.{PushesBlock-is}
use Rattle.merkle_batch.proofs.batch.Batch.push.Goals as goal

pub returns-clause-ok : goal.returns-clause-ok
returns-clause-ok c = rw (← c.self.view_is) (PushesBlock-is c.args.block.now c.leaf.result _ _ (record {
  few = c.self.invariant.within;
  is_leaf = ap twig_of c.leaf.ensures;
  adds = c.add_leaf.ensures.adds;
  total = c.add_leaf.ensures.grows.bytes;
  room = refl;
  base = refl;
  blocks = refl;
  bytes = refl;
}))
