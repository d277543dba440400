use Rattle.wire_frames.proofs.SpellingLemmas.{frames_of-found}
use Rattle.wire_frames.proofs.laws.frames_are_spelled.Goals as goal

pub returns : goal.returns
returns c = frames_of-found
