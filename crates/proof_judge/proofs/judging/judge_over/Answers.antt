use Rattle.std.proofs.Common.{refl, arith}
use Rattle.proof_form.specs.Proofs.{view}
use Rattle.node_set.specs.Contents.{held}
use Rattle.proof_judge.proofs.Judged.{way_few, judged}
use Rattle.proof_judge.proofs.judging.judge_over.Goals as goal

pub gather-requires-clause-room : goal.gather-requires-clause-room
gather-requires-clause-room g c =
    let m = (g.W.View.view c.args.over.now).source.content in
    let few = way_few m.length (held m) (view c.args.proof.now).block c.refused_over.new.way c.requires.within.fits.block
    (c.in-Ok-None.ensures.way c.in-Ok-None.field-0-is) in
    omega (arith, few, c.requires.few, c.requires.room)

pub returns-clause-judged : goal.returns-clause-judged
returns-clause-judged g c =
    let p = view c.args.proof.now in
    judged (g.A.Verifier.accepts c.args.verifier.now) p (g.W.View.view c.args.over.now).source (g.W.View.view c.refused_over.new.over).source c.args.laid.now
    c.refused_over.new.way c.gather.new.nodes.items c.incoming.result c.in-Ok-None.field-0 c.in-Ok-None.ensures.looks.keeps.source c.in-Ok-None.field-0-is
    c.requires.within.fits.block c.in-Ok-None.ensures.content c.in-Ok-None.ensures.signed c.in-Ok-None.ensures.way (c.incoming.ensures p refl)
    c.gather.ensures.order c.gather.ensures.few (c.gather.ensures.comes p)
