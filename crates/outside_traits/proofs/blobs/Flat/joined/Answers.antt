use Rattle.std.proofs.Common.{◌∙◌, sym}
use Rattle.outside_traits.proofs.Cutting.{concat-cut_at}
use Rattle.outside_traits.proofs.blobs.Flat.joined.Goals as goal

pub returns : goal.returns
returns c = rw (← c.self.view_is) (c.as_slice.ensures.value ∙ sym (concat-cut_at c.self.inside.bytes.items c.self.inside.ends.items 0 c.self.invariant))
