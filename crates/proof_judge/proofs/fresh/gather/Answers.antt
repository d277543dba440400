use Rattle.std.proofs.Common.{length, rules, ap, subst, arith}
use Rattle.std.proofs.lemmas.List.{length-append}
use Rattle.std.proofs.lemmas.List.Sorted.{IsNonDecreasingBy-from_sort_by_key, length_permutation}
use Rattle.node_set.specs.Contents.{Content, held}
use Rattle.log_change.proofs.Named.{number_of}
use Rattle.proof_check.specs.Judge.{with_block}
use Rattle.proof_judge.specs.Coming.{MayCome}
use Rattle.proof_judge.proofs.Candidates.{all_moved_of, candidates_ascend, candidates_come}
use Rattle.proof_judge.proofs.Taken.{takes-few}
use Rattle.proof_judge.proofs.fresh.gather.Goals as goal

pub put_all-requires : goal.put_all-requires
put_all-requires g c =
    let few = takes-few _ _ _ c.put_stored.ensures.takes in
    record { room = omega (arith, few, c.requires.room, c.put_stored.ensures.capacity, ap length c.as_slice.ensures.items) }

pub returns-clause-comes : goal.returns-clause-comes
returns-clause-comes g c = λ p m is closed over way_is.
    let after = (g.V.View.view c.args.view.now).source.content in
    let nodes = c.sort_unstable_by_key.new.self.items in
    let moved = all_moved_of c.put_stored.new.nodes.items c.args.way.now _ _ nodes c.put_all.ensures c.as_slice.ensures.items c.sort_unstable_by_key.ensures.permutation in
    subst (λ (last : Content). MayCome m (with_block p last) nodes) is
    (candidates_come p m after c.args.laid.now c.args.way.now c.put_stored.new.nodes.items nodes closed over c.requires.order way_is c.put_stored.ensures.takes moved)

pub returns-clause-order : goal.returns-clause-order
returns-clause-order g c =
    let m = (g.V.View.view c.args.view.now).source.content in
    let nodes = c.sort_unstable_by_key.new.self.items in
    let moved = all_moved_of c.put_stored.new.nodes.items c.args.way.now _ _ nodes c.put_all.ensures c.as_slice.ensures.items c.sort_unstable_by_key.ensures.permutation in
    candidates_ascend m.length (held m) c.requires.way.0 c.args.laid.now c.args.way.now c.put_stored.new.nodes.items nodes c.requires.order c.requires.way.1
    c.put_stored.ensures.takes moved (IsNonDecreasingBy-from_sort_by_key number_of _ c.sort_unstable_by_key.ensures.sorted (λ a r q k. search rules))

pub returns-clause-few : goal.returns-clause-few
returns-clause-few g c =
    let few = takes-few _ _ _ c.put_stored.ensures.takes in
    omega (
      arith,
      few,
      length-append c.put_stored.new.nodes.items c.as_slice.result.now,
      ap length c.put_all.ensures,
      ap length c.as_slice.ensures.items,
      length_permutation _ _ c.sort_unstable_by_key.ensures.permutation,
    )
