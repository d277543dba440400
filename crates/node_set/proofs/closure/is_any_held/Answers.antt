use Rattle.std.proofs.Common.{◌∙◌, sym, arith}
use Rattle.std.proofs.lemmas.Bool.{lt-ltb}
use Rattle.bit_field.specs.Places.{has}
use Rattle.node_set.proofs.StoredTest.{any_if_first, any_if_none}
use Rattle.node_set.proofs.closure.is_any_held.Goals as goal

pub returns-in-Some : goal.returns-in-Some
returns-in-Some c = λ depth offset starts ends.
    let found = c.in-Some.ensures in
    sym (lt-ltb _ c.args.end found.below) ∙ any_if_first (has c.args.held.now) depth offset c.args.first c.args.end c.args.end starts ends _ found

pub returns-in-None : goal.returns-in-None
returns-in-None c = λ depth offset starts ends.
    any_if_none (has c.args.held.now) depth offset c.args.first c.args.end c.args.end starts ends (omega arith) c.in-None.ensures
