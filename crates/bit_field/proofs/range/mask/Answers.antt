use Rattle.bit_field.proofs.Masks.{mask_is}
use Rattle.bit_field.proofs.range.mask.Goals as goal

pub returns : goal.returns
returns c = mask_is c.args.first c.args.count c.requires.some c.requires.within
