use Rattle.wire_messages.proofs.AgainLaws.{one_message}
use Rattle.wire_messages.proofs.laws.one_spelling_of_a_message.Goals as goal

pub returns : goal.returns
returns c a b p q same = one_message a b p q same
