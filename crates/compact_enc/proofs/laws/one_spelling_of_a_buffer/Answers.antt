use Rattle.compact_enc.proofs.Alone.{buffer_alone}
use Rattle.compact_enc.proofs.laws.one_spelling_of_a_buffer.Goals as goal

pub returns : goal.returns
returns c = buffer_alone
