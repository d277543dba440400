use Rattle.std.proofs.Common.{sym, arith}
use Rattle.flat_tree.specs.Roots.{full_roots_of}
use Rattle.flat_tree.proofs.RootLemmas.{length-numbers}
use Rattle.node_set.specs.Nodes.{with_nodes}
use Rattle.node_set.proofs.TableRoots.{roots_next}
use Rattle.core_disk.specs.Opened.{values_in}
use Rattle.core_disk.proofs.RecordLemmas.{roots_found, roots_lack}
use Rattle.core_disk.proofs.records.known_roots.Goals as goal

pub returns-in-None : goal.returns-in-None
returns-in-None c =
    roots_lack (with_nodes (values_in c.args.roots.now) c.args.records.now) c.args.length c.loop-place.place _ _ _ c.full_roots-places.ensures.numbers c.len-place-end.ensures.len c.loop-place-test.true
    c.at.ensures c.in-None.ensures.value

pub loop-place-preserved : goal.loop-place-preserved
loop-place-preserved c =
    let found = c.in-Some.ensures in
    roots_next c.args.length _ _ _ _ c.full_roots-places.ensures.numbers c.len-place-end.ensures.len c.loop-place-test.true c.at.ensures
    (with_nodes (values_in c.args.roots.now) c.args.records.now) _ _ c.in-Some.node c.loop-place.invariant c.push.ensures
    (λ depth offset there. sym (found.value depth offset there)) found.numbered found.size

pub returns : goal.returns
returns c =
    roots_found (with_nodes (values_in c.args.roots.now) c.args.records.now) c.args.length c.loop-place.place c.loop-place.after
    (omega (arith, c.len-place-end.ensures.len, c.loop-place-test.false, length-numbers _ (full_roots_of c.args.length) c.full_roots-places.ensures.numbers)) c.loop-place.invariant
