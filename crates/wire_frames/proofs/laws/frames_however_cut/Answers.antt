use Rattle.wire_frames.proofs.PieceLemmas.{feed_pieces-frames}
use Rattle.wire_frames.proofs.laws.frames_however_cut.Goals as goal

pub returns : goal.returns
returns c = feed_pieces-frames
