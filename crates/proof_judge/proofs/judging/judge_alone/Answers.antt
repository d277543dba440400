use Rattle.std.proofs.Common.{◌≡◌, ℕ, List, None, ap, subst, refl, ◌∙◌}
use Rattle.merkle_nodes.specs.declared.node.Node.{Node}
use Rattle.proof_form.specs.Proofs.{view}
use Rattle.node_set.specs.Contents.{roots}
use Rattle.log_view.specs.Views.{Source}
use Rattle.proof_check.specs.Parts.{range_refusal}
use Rattle.proof_check.specs.Judge.{each_part}
use Rattle.proof_judge.proofs.Admitted.{MakesFresh, head_is, alone_admits}
use Rattle.proof_judge.proofs.Legal.{incoming_new, new_below, legal_fetch}
use Rattle.proof_judge.proofs.NumbersFirst.{numbers_range}
use Rattle.proof_judge.proofs.judging.judge_alone.Goals as goal

pub fetch_change-requires : goal.fetch_change-requires
fetch_change-requires g c =
    let m = (g.V.View.view c.args.view.now).source.content in
    let p = view c.args.proof.now in
    let range = subst (λ (n : ℕ). each_part p (range_refusal n) ≡ None) (rw c.requires.alone refl) (numbers_range p m c.requires.passes) in
    record {
      within = new_below m.length m c.in-Ok-judge_over.index c.head-head.ensures.usable.blocks
          (incoming_new p m.length m c.in-Ok-judge_over.index range c.in-Ok-judge_over.ensures.judged.index_is);
    }

pub returns-in-Ok-put_fresh-clause-legal : goal.returns-in-Ok-put_fresh-clause-legal
returns-in-Ok-put_fresh-clause-legal g c =
    let m = (g.V.View.view c.args.view.now).source.content in
    let p = view c.args.proof.now in
    let range = subst (λ (n : ℕ). each_part p (range_refusal n) ≡ None) (rw c.requires.alone refl) (numbers_range p m c.requires.passes) in
    let later = c.in-Ok-put_fresh.ensures.looks.keeps.source ∙ c.in-Ok-judge_over.ensures.keeps.source in
    legal_fetch m c.head-head.result c.roots.result.now c.in-Ok-judge_over.index c.fetch_change.result
    (incoming_new p m.length m c.in-Ok-judge_over.index range c.in-Ok-judge_over.ensures.judged.index_is)
    (c.roots.ensures ∙ ap (λ (v : Source). roots v.content) later) c.fetch_change.ensures

pub returns-in-Ok-put_fresh-clause-admits : goal.returns-in-Ok-put_fresh-clause-admits
returns-in-Ok-put_fresh-clause-admits g c = λ shows sound.
    let s = (g.V.View.view c.args.view.now).source in
    let p = view c.args.proof.now in
    let same = c.in-Ok-judge_over.ensures.keeps.source in
    let later = c.in-Ok-put_fresh.ensures.looks.keeps.source ∙ same in
    let makes = subst (MakesFresh c.head-head.result.length c.judge_over.new.nodes.items c.put_fresh.new.fresh.items) same
    (subst (λ (ns : List Node). MakesFresh c.head-head.result.length ns c.put_fresh.new.fresh.items (g.V.View.view c.judge_over.new.over).source) c.as_slice.ensures.value
    c.in-Ok-put_fresh.ensures.fresh) in
    let rs = c.roots.ensures ∙ ap (λ (v : Source). roots v.content) later in
    alone_admits (g.A.Verifier.accepts c.args.verifier.now) p s c.in-Ok-judge_over.index c.judge_over.new.nodes.items c.put_fresh.new.fresh.items
    c.head-head.result c.roots.result.now c.fetch_change.result shows sound c.requires.fits c.requires.alone c.requires.passes c.in-Ok-judge_over.ensures.judged
    (subst (λ (n : ℕ). MakesFresh n c.judge_over.new.nodes.items c.put_fresh.new.fresh.items s) c.head-head.ensures.length makes)
    c.in-Ok-put_fresh.ensures.order (head_is c.head-head.result s.content c.head-head.ensures.fork c.head-head.ensures.length c.head-head.ensures.signature) rs c.fetch_change.ensures
