use Rattle.std.proofs.Common.{arith}
use Rattle.std.proofs.lemmas.Option.{IfSome_then}
use Rattle.proof_offer.proofs.reply.has_reply.Goals as goal

pub asked_block-requires-clause-within : goal.asked_block-requires-clause-within
asked_block-requires-clause-within g c = IfSome_then c.args.sought c.requires.sought (λ index is. omega (arith, c.head-head.ensures.usable.below index is, c.head-head.ensures.length))
