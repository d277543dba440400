use Rattle.std.proofs.Common.{rules, subst}
use Rattle.std.specs.List.Sorted.{IsPermutation}
use Rattle.std.proofs.lemmas.List.Sorted.{IsNonDecreasingBy-from_sort_by_key}
use Rattle.core_disk.specs.Planning.{HasHash}
use Rattle.core_disk.proofs.RisingRecords.{all_moved}
use Rattle.core_disk.proofs.putting.put_in_order.Goals as goal

pub returns-clause-order : goal.returns-clause-order
returns-clause-order c =
    let copies = c.put_copies.new.to.items in
    let now = c.sort_unstable_by_key.new.self.items in
    record {
      moved = subst (λ ns. IsPermutation ns now) c.put_copies.ensures.items c.sort_unstable_by_key.ensures.permutation;
      sorted = IsNonDecreasingBy-from_sort_by_key (λ node. node.index) _ c.sort_unstable_by_key.ensures.sorted (λ a r q k. search rules);
      hashes = all_moved HasHash copies now c.sort_unstable_by_key.ensures.permutation c.put_copies.ensures.hashes;
    }
