use Rattle.wire_frames.proofs.TakenLemmas.{HasTaken-feed}
use Rattle.wire_frames.proofs.framer.Framer.feed.Goals as goal

pub returns-clause-frames : goal.returns-clause-frames
returns-clause-frames c = λ stream bodies has.
    HasTaken-feed stream c.args.piece.now bodies c.args.self.now c.advance.new.self c.advance.result has c.advance.ensures.answer c.advance.ensures.framer
