use Rattle.wire_frames.proofs.SpellingLemmas.{frames_of-spellings}
use Rattle.wire_frames.proofs.laws.spellings_have_their_frames.Goals as goal

pub returns : goal.returns
returns c = frames_of-spellings
