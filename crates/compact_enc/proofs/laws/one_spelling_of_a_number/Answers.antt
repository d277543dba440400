use Rattle.compact_enc.proofs.Alone.{uint_alone}
use Rattle.compact_enc.proofs.laws.one_spelling_of_a_number.Goals as goal

pub returns : goal.returns
returns c = uint_alone
