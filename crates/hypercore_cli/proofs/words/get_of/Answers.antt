use Rattle.hypercore_cli.proofs.CommandLines.{get_of_others}
use Rattle.hypercore_cli.proofs.words.get_of.Goals as goal

pub returns-then-words-ne3 : goal.returns-then-words-ne3
returns-then-words-ne3 c = get_of_others c.args.words.now (λ three. c.if-words-ne3.true three)
