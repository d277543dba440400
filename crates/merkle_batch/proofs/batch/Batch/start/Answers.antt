use Rattle.std.proofs.Common.{◌≤◌, ℕ, length, refl, ap, sym, subst, ◌∙◌, arith}
use Rattle.flat_tree.specs.Roots.{full_roots_of}
use Rattle.flat_tree.specs.declared.limits.TheConstants.{MAX_ROOTS}
use Rattle.merkle_nodes.specs.Roots.{HasShape}
use Rattle.merkle_nodes.specs.Nodes.{AreNodes, bytes_under}
use Rattle.std.specs.List.{AllByRecursion}
use Rattle.merkle_batch.specs.Batch.{SizeFits}
use Rattle.merkle_batch.proofs.NodeLists.{few_roots}
use Rattle.merkle_batch.proofs.Held.{HasBlocks-none}
use Rattle.merkle_batch.proofs.batch.Batch.start.Goals as goal

pub invariant_of-self : goal.invariant_of-self
invariant_of-self c =
    let shape = subst (λ roots. HasShape roots c.args.length) (sym c.copy-self-inside.ensures) c.requires.shape in
    let few : length c.copy-self-inside.result ≤ MAX_ROOTS = few_roots c.args.length c.copy-self-inside.result c.requires.within shape in
    record {
      in_room = omega arith;
      within = omega arith;
      few_bytes = omega arith;
      total_is = c.bytes_under-self-inside.ensures.sum ∙ ap bytes_under (c.as_slice.ensures.items ∙ sym c.copy-self-inside.ensures);
      most = c.bytes_under-self-inside.ensures.most;
      shape = subst (λ (n : ℕ). HasShape c.copy-self-inside.result n) (omega arith) shape;
      roots_fit = subst (AllByRecursion SizeFits) (sym c.copy-self-inside.ensures) c.requires.sizes;
      nodes_fit = subst (AllByRecursion SizeFits) (sym c.clear.ensures.items) tt;
      memory = omega (arith, c.clear.ensures.capacity, c.self.invariant.memory);
      filled = omega (arith, few, ap length c.clear.ensures.items);
    }

pub returns-clause-held : goal.returns-clause-held
returns-clause-held c known are =
    HasBlocks-none known _ refl refl c.clear.ensures.items
    (subst (λ roots. AreNodes known (full_roots_of c.args.length) roots) (sym c.copy-self-inside.ensures) are)
