use Rattle.core_disk.specs.Hands.{hand_of}
use Rattle.core_disk.proofs.ApplyLemmas.{same_agrees}
use Rattle.core_disk.proofs.replay.DiskState.apply.Goals as goal

pub returns-in-Err : goal.returns-in-Err
returns-in-Err c = same_agrees (hand_of c.self.inside) c.args.self.now c.make_places.new.nodes c.self.view_is c.in-Err.ensures.same
