use Rattle.wire_frames.proofs.SpellingLemmas.{frames_of-only}
use Rattle.wire_frames.proofs.laws.spelled_are_frames.Goals as goal

pub returns : goal.returns
returns c = frames_of-only
