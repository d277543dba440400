use Rattle.wire_messages.proofs.Sizes.{in_frame, answer_most, behind_sync}
use Rattle.wire_messages.proofs.laws.messages_find_room.Goals as goal

pub returns-clause-frame : goal.returns-clause-frame
returns-clause-frame c = in_frame

pub returns-clause-answer : goal.returns-clause-answer
returns-clause-answer c = answer_most

pub returns-clause-outbox : goal.returns-clause-outbox
returns-clause-outbox c = behind_sync
