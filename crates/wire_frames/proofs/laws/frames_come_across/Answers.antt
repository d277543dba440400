use Rattle.wire_frames.proofs.PieceLemmas.{feed_pieces-across}
use Rattle.wire_frames.proofs.laws.frames_come_across.Goals as goal

pub returns : goal.returns
returns c = feed_pieces-across
