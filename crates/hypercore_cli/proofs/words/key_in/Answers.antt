use Rattle.hypercore_cli.proofs.CommandLines.{IsKeyOf-read}
use Rattle.hypercore_cli.proofs.words.key_in.Goals as goal

pub returns : goal.returns
returns c = rw c.ok.ensures.value (IsKeyOf-read c.args.word.now c.from_hex.result c.from_hex.ensures)
