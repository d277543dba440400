use Rattle.std.proofs.Common.{rules}
use Rattle.outside_traits.proofs.Cutting.{Pushed, Rise-pushed, cut_at-pushed}
use Rattle.outside_traits.proofs.blobs.Flat.push.Goals as goal

pushed_of : (c : goal.Else-is_err-3) → Pushed c.self.inside.bytes.items c.args.block.now c.self.inside.ends.items c.extend_from_slice.new.self.items
    c.push.new.self.items
pushed_of c = record { bytes_are = search rules; ends_are = search rules }

pub invariant_of-self-2 : goal.invariant_of-self-2
invariant_of-self-2 c = Rise-pushed _ _ _ _ _ (pushed_of c) c.self.invariant

pub returns-clause-ok : goal.returns-clause-ok
returns-clause-ok c = rw (← c.self.view_is) (cut_at-pushed _ _ _ _ _ (pushed_of c) c.self.invariant)
