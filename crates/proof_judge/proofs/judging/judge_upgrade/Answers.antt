use Rattle.std.proofs.Common.{List, IsTrue, ap, subst, sym, inr, ◌∙◌}
use Rattle.merkle_nodes.specs.declared.node.Node.{Node}
use Rattle.proof_form.specs.Proofs.{view}
use Rattle.node_set.specs.Whole.{IsSound}
use Rattle.log_view.specs.Views.{Source}
use Rattle.log_view.specs.Overlays.{laid_over}
use Rattle.log_change.specs.declared.change.LogChange.{LogChange}
use Rattle.proof_judge.specs.Judging.{later_refusal}
use Rattle.proof_judge.proofs.Admitted.{MakesFresh, head_is, due, fails_later, judged_below, over_after, after_sound, upgrade_range, is_signed, upgrade_admits}
use Rattle.proof_judge.proofs.Legal.{incoming_new, new_below, legal_upgrade}
use Rattle.proof_judge.proofs.NumbersFirst.{only_later}
use Rattle.proof_judge.proofs.judging.judge_upgrade.Goals as goal

pub returns-in-Err-judge_laid-clause-refused : goal.returns-in-Err-judge_laid-clause-refused
returns-in-Err-judge_laid-clause-refused g c = λ shows sound.
    let s = (g.V.View.view c.args.view.now).source in
    let p = view c.args.proof.now in
    let u = c.args.upgrade.now in
    let accepts = g.A.Verifier.accepts c.args.verifier.now in
    let log = c.in-Ok-lay_upgrade.after in
    let keeps = c.in-Ok-lay_upgrade.ensures.looks.keeps in
    let lays = c.in-Ok-lay_upgrade.ensures.lays in
    let is = ap (λ (v : Source). laid_over v.content log.head log.kept c.as_slice.result.now) keeps.source
    ∙ ap (laid_over s.content log.head log.kept) c.as_slice.ensures.value
    ∙ over_after p u s log c.lay_upgrade.new.nodes.items c.requires.fits c.requires.upgrade c.requires.passes lays shows sound in
    let there = subst IsSound (sym is) (after_sound p u s log c.lay_upgrade.new.nodes.items c.requires.fits c.requires.upgrade c.requires.passes lays sound) in
    inr (fails_later _ _ _ _ _ _ keeps
    (ap (later_refusal accepts p) is ∙ sym (only_later accepts p s.content sound c.requires.fits c.requires.passes))
    (c.in-Err-judge_laid.ensures.refused (subst (λ (v : Source). IsTrue v.shows) (sym keeps.source) shows) there))

pub upgrade_change-requires : goal.upgrade_change-requires
upgrade_change-requires g c =
    let s = (g.V.View.view c.args.view.now).source in
    let p = view c.args.proof.now in
    let log = c.in-Ok-lay_upgrade.after in
    let lays = c.in-Ok-lay_upgrade.ensures.lays in
    let range = upgrade_range p c.args.upgrade.now s log c.lay_upgrade.new.nodes.items c.requires.fits c.requires.upgrade c.requires.passes lays in
    let over = laid_over (g.V.View.view c.lay_upgrade.new.view).source.content log.head log.kept c.as_slice.result.now in
    record {
      within = new_below log.head.length over c.in-Ok-judge_laid.index lays.is_laid.blocks
          (incoming_new p log.head.length over c.in-Ok-judge_laid.index range c.in-Ok-judge_laid.ensures.judged.index_is);
    }

pub returns-in-Ok-put_fresh-clause-legal : goal.returns-in-Ok-put_fresh-clause-legal
returns-in-Ok-put_fresh-clause-legal g c =
    let s = (g.V.View.view c.args.view.now).source in
    let p = view c.args.proof.now in
    let u = c.args.upgrade.now in
    let log = c.in-Ok-lay_upgrade.after in
    let lays = c.in-Ok-lay_upgrade.ensures.lays in
    let laid = c.lay_upgrade.new.nodes.items in
    let range = upgrade_range p u s log laid c.requires.fits c.requires.upgrade c.requires.passes lays in
    let judged = judged_below (g.A.Verifier.accepts c.args.verifier.now) p (g.V.View.view c.lay_upgrade.new.view).source s log c.as_slice.result.now laid
    c.judge_laid.new.nodes.items c.in-Ok-judge_laid.index c.in-Ok-lay_upgrade.ensures.looks.keeps.source c.as_slice.ensures.value c.in-Ok-judge_laid.ensures.judged in
    legal_upgrade s p.fork u log laid (due p u s log laid c.requires.fits c.requires.upgrade c.requires.passes lays) lays c.head-before.ensures.usable.below
    c.head-before.result c.in-Ok-judge_laid.index c.upgrade_change.result c.head-before.ensures.fork
    (incoming_new p log.head.length (laid_over s.content log.head log.kept laid) c.in-Ok-judge_laid.index range judged.index_is) c.upgrade_change.ensures

pub returns-in-Ok-put_fresh-clause-signed : goal.returns-in-Ok-put_fresh-clause-signed
returns-in-Ok-put_fresh-clause-signed g c =
    let s = (g.V.View.view c.args.view.now).source in
    let p = view c.args.proof.now in
    let log = c.in-Ok-lay_upgrade.after in
    let laid = c.lay_upgrade.new.nodes.items in
    let judged = judged_below (g.A.Verifier.accepts c.args.verifier.now) p (g.V.View.view c.lay_upgrade.new.view).source s log c.as_slice.result.now laid
    c.judge_laid.new.nodes.items c.in-Ok-judge_laid.index c.in-Ok-lay_upgrade.ensures.looks.keeps.source c.as_slice.ensures.value c.in-Ok-judge_laid.ensures.judged in
    is_signed p c.args.upgrade.now s log laid c.requires.fits c.requires.upgrade c.requires.passes c.in-Ok-lay_upgrade.ensures.lays
    (g.A.Verifier.accepts c.args.verifier.now) c.judge_laid.new.nodes.items c.in-Ok-judge_laid.index judged c.upgrade_change.result
    (ap (λ (change : LogChange). change.head) c.upgrade_change.ensures) (ap (λ (change : LogChange). change.roots) c.upgrade_change.ensures)

pub returns-in-Ok-put_fresh-clause-admits : goal.returns-in-Ok-put_fresh-clause-admits
returns-in-Ok-put_fresh-clause-admits g c = λ shows sound.
    let s = (g.V.View.view c.args.view.now).source in
    let p = view c.args.proof.now in
    let log = c.in-Ok-lay_upgrade.after in
    let laid = c.lay_upgrade.new.nodes.items in
    let nodes = c.judge_laid.new.nodes.items in
    let fresh = c.put_fresh.new.fresh.items in
    let judged = judged_below (g.A.Verifier.accepts c.args.verifier.now) p (g.V.View.view c.lay_upgrade.new.view).source s log c.as_slice.result.now laid
    nodes c.in-Ok-judge_laid.index c.in-Ok-lay_upgrade.ensures.looks.keeps.source c.as_slice.ensures.value c.in-Ok-judge_laid.ensures.judged in
    let same = c.in-Ok-judge_laid.ensures.keeps.source ∙ c.in-Ok-lay_upgrade.ensures.looks.keeps.source in
    let makes = subst (MakesFresh log.head.length nodes fresh) same
    (subst (λ (ns : List Node). MakesFresh log.head.length ns fresh (g.V.View.view c.judge_laid.new.view).source) c.as_slice-2.ensures.value c.in-Ok-put_fresh.ensures.fresh) in
    upgrade_admits p c.args.upgrade.now s log laid c.requires.fits c.requires.upgrade c.requires.passes c.in-Ok-lay_upgrade.ensures.lays
    (g.A.Verifier.accepts c.args.verifier.now) nodes c.in-Ok-judge_laid.index fresh c.head-before.result c.upgrade_change.result shows sound judged makes
    c.in-Ok-put_fresh.ensures.order (head_is c.head-before.result s.content c.head-before.ensures.fork c.head-before.ensures.length c.head-before.ensures.signature)
    c.upgrade_change.ensures
