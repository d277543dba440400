use Rattle.proof_judge.proofs.PartLemmas.{above_fits}
use Rattle.proof_judge.proofs.part.number_above.Goals as goal

pub index-requires-clause-offset : goal.index-requires-clause-offset
index-requires-clause-offset c =
    let is = c.requires.part.1 in above_fits c.requires.part.0 c.args.part.now.depth c.args.part.now.offset c.args.level is.within is.blocks c.requires.few
