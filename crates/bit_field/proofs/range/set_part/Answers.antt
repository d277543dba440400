use Rattle.std.proofs.Common.{arith}
use Rattle.bit_field.proofs.Parts.{set_in_word}
use Rattle.bit_field.proofs.range.set_part.Goals as goal

pub returns : goal.returns
returns c = set_in_word c.args.words.now c.args.from c.args.to _ c.args.bit (omega arith) c.requires.one c.requires.within c.set_bits.ensures
