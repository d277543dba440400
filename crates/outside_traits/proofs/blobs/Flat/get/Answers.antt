use Rattle.std.proofs.Common.{◌≡◌, sym, ap, ◌∙◌, arith, length}
use Rattle.outside_traits.proofs.Cutting.{length-cut_at}
use Rattle.outside_traits.proofs.blobs.Flat.get.Goals as goal

pub list_at-requires-clause-within : goal.list_at-requires-clause-within
list_at-requires-clause-within c =
    let lists : length c.args.self.now ≡ length c.self.inside.ends.items = ap length (sym c.self.view_is)
    ∙ length-cut_at c.self.inside.bytes.items c.self.inside.ends.items 0 in
    rw c.as_slice-2.ensures.value (omega (arith, lists, c.requires))
