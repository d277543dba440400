use Rattle.std.proofs.Common.{◌≡◌, ◌-◌, List, length, take, drop, slice_get, sym, ap, subst, ◌∙◌}
use Rattle.std.proofs.lemmas.List.{take_rest}
use Rattle.std.specs.List.{AllByRecursion}
use Rattle.merkle_nodes.specs.declared.node.Node.{Node}
use Rattle.proof_check.specs.Growth.{HasPlace}
use Rattle.proof_check.specs.Meets.{IsPart, AllIn, behind_end}
use Rattle.proof_check.proofs.Grown.{part_none, part_all, lefts_in, rights_in, roots_in, grown_all}
use Rattle.proof_check.proofs.Climbing.{places_of_roots}
use Rattle.proof_check.proofs.upgrade.put_joined.Goals as goal

pub put_new-requires-3-clause-few : goal.put_new-requires-3-clause-few
put_new-requires-3-clause-few c =
    let to = c.requires.joined in
    subst (AllByRecursion HasPlace) (sym c.as_slice-3.ensures.items) (places_of_roots to.0 c.args.joined.now.roots to.1 to.2.shape)

pub returns-clause-puts : goal.returns-clause-puts
returns-clause-puts c = λ value held to longer below is_first joined has d o.
    let j = c.args.joined.now in
    let base = c.args.base in
    let first = c.args.first in
    let value_of = behind_end base to held value in
    let lefts : take (length c.as_slice.result.now - (first - j.low)) (drop (first - j.low) c.as_slice.result.now) ≡ drop (first - j.low) j.lefts =
    take_rest c.as_slice.result.now (first - j.low) ∙ ap (drop (first - j.low)) c.as_slice.ensures.items in
    let rights : take (length c.as_slice-2.result.now - (first - j.low)) (drop (first - j.low) c.as_slice-2.result.now) ≡ drop (first - j.low) j.rights =
    take_rest c.as_slice-2.result.now (first - j.low) ∙ ap (drop (first - j.low)) c.as_slice-2.ensures.items in
    let one = c.put_new.ensures.part value_of (subst (IsPart value_of) (sym c.requires.empty) (part_none value_of))
    (subst (AllIn value_of base) (sym lefts) (lefts_in base to first held value j longer below is_first has joined.lefts)) in
    let two = c.put_new-2.ensures.part value_of one (subst (AllIn value_of base) (sym rights) (rights_in base to first held value j longer below is_first has joined.rights)) in
    let three = c.put_new-3.ensures.part value_of two (subst (AllIn value_of base) (sym c.as_slice-3.ensures.items) (roots_in base to first held value j longer below is_first has)) in
    part_all value_of _ three (grown_all base to first held value j longer below is_first has joined.low _ joined.lefts joined.rights
    (record {
      all = λ place e p node there index past. c.put_new-3.ensures.keeps e p (c.put_new-2.ensures.keeps e p
          (c.put_new.ensures.all place e p node (ap (λ (ns : List Node). slice_get ns place) lefts ∙ there) index past));
    })
    (record {
      all = λ place e p node there index past. c.put_new-3.ensures.keeps e p
          (c.put_new-2.ensures.all place e p node (ap (λ (ns : List Node). slice_get ns place) rights ∙ there) index past);
    })
    (record {
      all = λ place e p node there index past.
          c.put_new-3.ensures.all place e p node (ap (λ (ns : List Node). slice_get ns place) c.as_slice-3.ensures.items ∙ there) index past;
    })) d o
