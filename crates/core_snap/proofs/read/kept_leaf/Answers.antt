use Rattle.std.proofs.Common.{◌≡◌, true, sym, ◌∙◌, rules}
use Rattle.std.specs.Prelude.{is_some}
use Rattle.core_snap.proofs.WayLemmas.{leaf_stored}
use Rattle.core_snap.proofs.read.kept_leaf.Goals as goal

pub unwrap-requires : goal.unwrap-requires
unwrap-requires g c =
    let given = c.in-Ok.ensures.gives.closed 0 c.args.index (sym c.index.ensures.number) in
    let some : is_some c.in-Ok.found ≡ true = given ∙ leaf_stored _ _ _ _ c.requires.way.is_held c.requires.way.inside in
    search rules
