use Rattle.std.proofs.Common.{sym}
use Rattle.std.proofs.lemmas.Option.{slice_get_within}
use Rattle.flat_tree.specs.declared.limits.TheConstants.{MAX_SIBLINGS}
use Rattle.flat_tree.proofs.OverLemmas.{IsOver, over-xor, over-code, over_depth}
use Rattle.flat_tree.proofs.roots.root_of_block.Goals as goal
use Rattle.flat_tree.proofs.roots.root_of_block.Goals.{After-ilog2-depth}

over : (c : After-ilog2-depth) → IsOver c.args.blocks c.args.block c.ilog2-depth.result
over c = over-xor c.args.blocks c.args.block c.ilog2-depth.result c.requires.held c.ilog2-depth.ensures.power_le c.ilog2-depth.ensures.next_power_gt

pub returns-clause-place : goal.returns-clause-place
returns-clause-place c = sym (over-code _ _ _ (over c)).place_is

pub returns-clause-depth : goal.returns-clause-depth
returns-clause-depth c = sym (over-code _ _ _ (over c)).depth_is

pub returns-clause-root : goal.returns-clause-root
returns-clause-root c = (over-code _ _ _ (over c)).root

pub returns-clause-inside : goal.returns-clause-inside
returns-clause-inside c = slice_get_within _ _ _ (over-code _ _ _ (over c)).root

pub returns-clause-few : goal.returns-clause-few
returns-clause-few c few = over_depth _ _ _ MAX_SIBLINGS (over c) few
