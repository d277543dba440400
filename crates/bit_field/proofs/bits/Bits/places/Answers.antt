use Rattle.std.proofs.Common.{refl}
use Rattle.bit_field.proofs.Views.{stand}
use Rattle.bit_field.proofs.bits.Bits.places.Goals as goal

pub returns-clause-places : goal.returns-clause-places
returns-clause-places c = (stand _ _ _ _ c.self.invariant c.self.view_is refl).places
