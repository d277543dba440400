use Rattle.std.proofs.Common.{◌∙◌, sym}
use Rattle.outside_traits.proofs.Cutting.{length-cut_at}
use Rattle.outside_traits.proofs.blobs.Flat.len.Goals as goal

pub returns : goal.returns
returns c = rw (← c.self.view_is) (c.len.ensures ∙ c.self.inside.ends.ok.0 ∙ sym (length-cut_at c.self.inside.bytes.items c.self.inside.ends.items 0))
