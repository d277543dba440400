use Rattle.std.proofs.Common.{rules, List, [], ◌∷◌, ◌++◌, get_or, subst, sym, ap, ◌∙◌}
use Rattle.std.specs.List.{AllByRecursion}
use Rattle.std.proofs.lemmas.List.{take_more}
use Rattle.merkle_nodes.specs.declared.node.Node.{Node}
use Rattle.node_set.proofs.AppendLemmas.{all_push}
use Rattle.core_disk.specs.Planning.{HasHash}
use Rattle.core_disk.proofs.putting.put_copies.Goals as goal

pub loop-node-preserved : goal.loop-node-preserved
loop-node-preserved c =
    let none : Node = record { index = 0; size = 0; hash = [] } in
    let node = get_or c.args.from.now c.loop-node.node-index none in
    let so_far = c.loop-node.invariant in
    record {
      items = c.push_copy.ensures.items ∙ ap (λ (ns : List Node). ns ++ node ∷ []) so_far.items
          ∙ sym (take_more c.args.from.now c.loop-node.node-index none c.loop-node-test.true);
      hashes = subst (AllByRecursion HasHash) (sym c.push_copy.ensures.items)
          (all_push HasHash c.loop-node.to.items node so_far.hashes c.push_copy.ensures.hash);
      room = search rules;
    }
