use Rattle.std.proofs.Common.{suc, ◌-◌, ◌<◌, ◌≤◌, max, sym, subst, arith}
use Rattle.flat_tree.specs.Roots.{depth_over}
use Rattle.node_set.specs.Walks.{IsFirstStored}
use Rattle.proof_check.proofs.Meeting.{met_level, met_top, root_value, half_value, beside_both, same_higher_le}
use Rattle.proof_check.proofs.meet.met_from.Goals as goal

pub returns-then-level-top-clause-stored : goal.returns-then-level-top-clause-stored
returns-then-level-top-clause-stored c = λ held is_first none.
    let both = beside_both c.args.base c.args.to c.args.joined.now.low c.args.index c.args.from c.requires.within c.requires.longer c.requires.from in
    let past : depth_over c.args.to c.args.index ≤ max c.args.from c.args.first = omega (arith, c.if-level-top.true, c.max-level.ensures, c.root_of_block-place.ensures.depth) in
    subst (IsFirstStored c.args.to held c.args.index) (sym c.root_of_block-place.ensures.depth)
    (met_top c.args.base c.args.to c.args.joined.now.low (depth_over c.args.to (c.args.base - 1)) c.args.first held c.args.index c.args.from c.requires.within is_first both none past)

pub returns-then-level-top-clause-value : goal.returns-then-level-top-clause-value
returns-then-level-top-clause-value c = λ value has.
    root_value c.args.to c.root_of_block-place.result.0 c.root_of_block-place.result.1 _ value c.args.joined.now.roots _ has.at_roots c.at-node.ensures
    c.root_of_block-place.ensures.root

pub half-node-requires-clause-left : goal.half-node-requires-clause-left
half-node-requires-clause-left c =
    let low : c.args.from < depth_over c.args.to c.args.index = omega (arith, c.if-level-top.false, c.max-level.ensures, c.root_of_block-place.ensures.depth) in
    let both = beside_both c.args.base c.args.to c.args.joined.now.low c.args.index c.args.from c.requires.within c.requires.longer c.requires.from low in
    omega (arith, both.0.low_is, both.1, c.requires.joined.lefts, c.if-level-top.false, c.root_of_block-place.ensures.depth, c.max-level.ensures)

pub half-node-requires-clause-right : goal.half-node-requires-clause-right
half-node-requires-clause-right c =
    let low : c.args.from < depth_over c.args.to c.args.index = omega (arith, c.if-level-top.false, c.max-level.ensures, c.root_of_block-place.ensures.depth) in
    let both = beside_both c.args.base c.args.to c.args.joined.now.low c.args.index c.args.from c.requires.within c.requires.longer c.requires.from low in
    omega (arith, both.0.low_is, both.1, c.requires.joined.rights, c.if-level-top.false, c.root_of_block-place.ensures.depth, c.max-level.ensures)

pub returns-clause-stored : goal.returns-clause-stored
returns-clause-stored c = λ held is_first none.
    let both = beside_both c.args.base c.args.to c.args.joined.now.low c.args.index c.args.from c.requires.within c.requires.longer c.requires.from in
    met_level c.args.base c.args.to c.args.joined.now.low (depth_over c.args.to (c.args.base - 1)) c.args.first held c.args.index c.args.from c.requires.within
    is_first both none c.max-level.result c.max-level.ensures (omega (arith, c.if-level-top.false, c.root_of_block-place.ensures.depth))

pub returns-clause-value : goal.returns-clause-value
returns-clause-value c = λ value has.
    let level = c.max-level.result in
    let low : c.args.from < depth_over c.args.to c.args.index = omega (arith, c.if-level-top.false, c.max-level.ensures, c.root_of_block-place.ensures.depth) in
    let both = beside_both c.args.base c.args.to c.args.joined.now.low c.args.index c.args.from c.requires.within c.requires.longer c.requires.from low in
    let halves = has.at_halves level (omega (arith, both.0.low_is, c.max-level.ensures)) (omega (arith, both.1, c.if-level-top.false, c.root_of_block-place.ensures.depth)) in
    let same = same_higher_le (c.args.base - 1) c.args.index (suc c.args.from) (suc level) (omega (arith, c.max-level.ensures)) both.0.same in
    half_value c.args.base c.args.index level value _ _ _ halves same _ c.half-node.ensures.right c.half-node.ensures.left
