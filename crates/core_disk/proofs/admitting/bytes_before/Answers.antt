use Rattle.std.proofs.Common.{◌≡◌, IsTrue, rules, sym, subst, ap, ◌∙◌, arith}
use Rattle.node_set.specs.Contents.{Content, twig_at}
use Rattle.node_set.specs.Nodes.{with_nodes}
use Rattle.core_disk.proofs.BytesBefore.{bytes_more, bytes_all}
use Rattle.core_disk.proofs.admitting.bytes_before.Goals as goal

pub loop-place-preserved : goal.loop-place-preserved
loop-place-preserved g c =
    let v = g.V.View.view c.args.view.now in
    let fresh = c.args.fresh.now in
    let so_far = c.loop-place.invariant in
    let keeps = so_far.keeps.keeps in
    record {
      keeps = search rules;
      sum = λ stands.
          let still = subst IsTrue (sym keeps.stands) stands in
          bytes_more (with_nodes v.content.node fresh) c.args.index _ _ c.loop-place.place _ c.loop-place.bytes c.in-Ok.size c.full_roots-places.ensures.numbers
          c.len-place-end.ensures.len c.loop-place-test.true c.at.ensures (so_far.sum stands)
          (λ depth offset is.
          let size = λ (m : Content). (twig_at (with_nodes m.node fresh) depth offset).size in
          let own : c.in-Ok.size ≡ size (g.V.View.view c.loop-place.view).content = c.in-Ok.ensures.size still depth offset is in
          own ∙ ap size keeps.content);
      most = omega (arith, so_far.most, c.in-Ok.ensures.most);
    }

pub returns-clause-bytes : goal.returns-clause-bytes
returns-clause-bytes g c stands =
    let v = g.V.View.view c.args.view.now in
    bytes_all (with_nodes v.content.node c.args.fresh.now) c.args.index _ _ c.loop-place.place c.loop-place.bytes c.full_roots-places.ensures.numbers
    c.len-place-end.ensures.len c.loop-place-test.false (c.loop-place.invariant.sum stands)
