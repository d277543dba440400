use Rattle.std.proofs.Common.{◌-◌, ◌<◌, arith}
use Rattle.flat_tree.proofs.OverLemmas.{IsOver, over-xor}
use Rattle.proof_check.proofs.Meeting.{from_root, none_root, from_behind, none_behind, none_empty}
use Rattle.proof_check.proofs.meet.level_from.Goals as goal

pub returns-then-index-base-clause-from : goal.returns-then-index-base-clause-from
returns-then-index-base-clause-from c = λ low low_is.
    let within = c.if-index-base.true in
    rw (low_is (omega (arith, within)), c.root_of_block-depth.ensures.depth) (from_root c.args.base c.args.to c.args.index within c.requires.longer)

pub returns-then-index-base-clause-none : goal.returns-then-index-base-clause-none
returns-then-index-base-clause-none c = λ held below none level less under.
    let within = c.if-index-base.true in
    none_root c.args.base c.args.to held c.args.index within c.requires.longer (none within) level (omega (arith, less, c.root_of_block-depth.ensures.depth))

pub returns-then-base-eq0-clause-none : goal.returns-then-base-eq0-clause-none
returns-then-base-eq0-clause-none c = λ held below none level less under.
    none_empty c.args.to held c.args.index (λ block is_held. omega (arith, below block is_held, c.if-base-eq0.true)) c.requires.within level under

over : (c : goal.After-ilog2) → IsOver c.args.index (c.args.base - 1) c.ilog2.result
over c = over-xor c.args.index (c.args.base - 1) c.ilog2.result (omega (arith, c.if-index-base.false, c.if-base-eq0.false)) c.ilog2.ensures.power_le c.ilog2.ensures.next_power_gt

pub returns-clause-from : goal.returns-clause-from
returns-clause-from c = λ low low_is.
    let some : 0 < c.args.base = omega (arith, c.if-base-eq0.false) in
    rw (low_is some) (from_behind c.args.base c.args.index c.ilog2.result some (over c) c.args.to c.if-index-base.false)

pub returns-clause-none : goal.returns-clause-none
returns-clause-none c = λ held below none level less under.
    let some : 0 < c.args.base = omega (arith, c.if-base-eq0.false) in
    none_behind c.args.base c.args.index c.ilog2.result some (over c) c.args.to held below c.requires.within level less under
