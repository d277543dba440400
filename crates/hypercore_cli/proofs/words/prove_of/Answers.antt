use Rattle.hypercore_cli.proofs.CommandLines.{prove_of_others}
use Rattle.hypercore_cli.proofs.words.prove_of.Goals as goal

pub returns-then-words-ne2 : goal.returns-then-words-ne2
returns-then-words-ne2 c = prove_of_others c.args.words.now (λ two. c.if-words-ne2.true two)
