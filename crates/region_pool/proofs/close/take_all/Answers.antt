use Rattle.std.proofs.Common.{◌≡◌, Some, None, sym, ap, ◌∙◌}
use mathlib.Core.Option.{some-injective}
use lib.ListN.{get_elem?}
use Rattle.region_pool.proofs.close.take_all.Goals as goal

pub unreachable-requires : goal.unreachable-requires
unreachable-requires g c =
    let home = c.requires.home c.loop-place.place c.loop-place-test.true in
    let same : None ≡ Some home.0 =
    some-injective _ _ (sym c.in_default.ensures.value ∙ ap (λ l. get_elem? l c.loop-place.place) c.loop-place.invariant.items ∙ home.1) in
    cc
