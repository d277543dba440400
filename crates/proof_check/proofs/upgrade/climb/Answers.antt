use Rattle.std.proofs.Common.{◌≡◌, suc, ◌-◌, ◌≤◌, length, refl, ap, ◌∙◌, arith, lit<}
use Rattle.std.proofs.lemmas.Bool.{eqb-true, eqb-false}
use Rattle.std.proofs.lemmas.List.{take_rest, length_push}
use Rattle.flat_tree.specs.Roots.{depth_over}
use Rattle.flat_tree.specs.Subtrees.{subtree, first_block_of}
use Rattle.flat_tree.specs.Roots.{full_roots_of}
use Rattle.proof_check.specs.Growth.{last_over}
use Rattle.proof_check.proofs.Climbing.{many_nodes, some_left, some_right, pair_of, pair_fits, climb_start, climb_step, grown_many, grown_joined, grown_values}
use Rattle.proof_check.proofs.Splitting.{last_root}
use Rattle.proof_check.proofs.Overs.{deeper, joint}
use Rattle.proof_check.proofs.upgrade.climb.Goals as goal

pub pop-node-requires : goal.pop-node-requires
pop-node-requires c =
    let last = ap length (last_root c.args.base c.requires.some _ _ c.requires.low refl).0 in
    (lit< tt, omega (arith, many_nodes c.args.joined.now.roots (full_roots_of c.args.base) c.requires.shape, last, length_push (full_roots_of (first_block_of c.args.joined.now.low (last_over c.args.base c.args.joined.now.low))) (subtree c.args.joined.now.low (last_over c.args.base c.args.joined.now.low))))

pub loop-level-init : goal.loop-level-init
loop-level-init c = record {
  climbing = rw (c.requires.lefts, c.requires.rights) (climb_start _ _ _ _ _ _ _ c.requires.some c.requires.low c.requires.shape c.pop-node.ensures);
  same = refl;
}

pub halves-requires-clause-left : goal.halves-requires-clause-left
halves-requires-clause-left c = λ right. (some_left c.loop-level.invariant.climbing (eqb-true _ _ right))

pub halves-requires-clause-right : goal.halves-requires-clause-right
halves-requires-clause-right c = λ left.
    let climbing = c.loop-level.invariant.climbing in
    let at = joint _ _ _ c.loop-level.level c.requires.some c.requires.longer c.requires.low climbing.low_is (omega (arith, c.loop-level-test.true, c.root_of_block-top.ensures.depth)) in
    some_right climbing c.requires.cover (omega (arith, eqb-false _ _ left)) at.within

pub parent-node-requires-clause-within : goal.parent-node-requires-clause-within
parent-node-requires-clause-within c =
    let climbing = c.loop-level.invariant.climbing in
    let at = joint _ _ _ c.loop-level.level c.requires.some c.requires.longer c.requires.low climbing.low_is (omega (arith, c.loop-level-test.true, c.root_of_block-top.ensures.depth)) in
    let pair = pair_of climbing c.requires.cover at.within _ _ _ _ c.halves.ensures.right c.halves.ensures.left in
    let fits = pair_fits pair c.requires.bytes c.requires.within at.within in
    omega (arith, fits.0)

pub parent-node-requires-clause-siblings : goal.parent-node-requires-clause-siblings
parent-node-requires-clause-siblings c =
    let climbing = c.loop-level.invariant.climbing in
    let at = joint _ _ _ c.loop-level.level c.requires.some c.requires.longer c.requires.low climbing.low_is (omega (arith, c.loop-level-test.true, c.root_of_block-top.ensures.depth)) in
    let pair = pair_of climbing c.requires.cover at.within _ _ _ _ c.halves.ensures.right c.halves.ensures.left in
    (c.loop-level.level, last_over c.args.base (suc c.loop-level.level), pair.left_is, pair.right_is)

pub parent-node-requires-clause-sum : goal.parent-node-requires-clause-sum
parent-node-requires-clause-sum c =
    let climbing = c.loop-level.invariant.climbing in
    let at = joint _ _ _ c.loop-level.level c.requires.some c.requires.longer c.requires.low climbing.low_is (omega (arith, c.loop-level-test.true, c.root_of_block-top.ensures.depth)) in
    let pair = pair_of climbing c.requires.cover at.within _ _ _ _ c.halves.ensures.right c.halves.ensures.left in
    let fits = pair_fits pair c.requires.bytes c.requires.within at.within in
    omega (arith, fits.1)

pub loop-level-preserved : goal.loop-level-preserved
loop-level-preserved c =
    let climbing = c.loop-level.invariant.climbing in
    let level = c.loop-level.level in
    let at = joint _ _ _ level c.requires.some c.requires.longer c.requires.low climbing.low_is (omega (arith, c.loop-level-test.true, c.root_of_block-top.ensures.depth)) in
    let pair = pair_of climbing c.requires.cover at.within _ _ _ _ c.halves.ensures.right c.halves.ensures.left in
    record {
      climbing = rw (c.push.ensures, c.push-in-loop-level.ensures) (
          climb_step climbing _ _ _ pair at.within c.requires.within at.past c.requires.some (c.parent-node.ensures.index level (last_over c.args.base (suc level)) pair.left_is) c.parent-node.ensures.twig);
      same = c.loop-level.invariant.same;
    }

pub push-requires-2 : goal.push-requires-2
push-requires-2 c =
    let climbing = c.loop-level.invariant.climbing in
    let higher : c.args.joined.now.low ≤ c.root_of_block-top.result.1 =
    omega (arith, deeper c.args.base c.args.to (c.args.base - 1) (omega (arith, c.requires.some)) (omega (arith, c.requires.longer)), c.requires.low, c.root_of_block-top.ensures.depth) in
    let top : c.loop-level.level ≡ depth_over c.args.to (c.args.base - 1) =
    omega (arith, c.loop-level-test.false, c.loop-level.auto.level-end higher, c.root_of_block-top.ensures.depth) in
    let many = grown_many climbing c.requires.some c.requires.longer c.requires.cover top c.requires.within in
    (lit< tt, omega (arith, many))

pub extend-requires : goal.extend-requires
extend-requires c =
    let climbing = c.loop-level.invariant.climbing in
    let higher : c.args.joined.now.low ≤ c.root_of_block-top.result.1 =
    omega (arith, deeper c.args.base c.args.to (c.args.base - 1) (omega (arith, c.requires.some)) (omega (arith, c.requires.longer)), c.requires.low, c.root_of_block-top.ensures.depth) in
    let top : c.loop-level.level ≡ depth_over c.args.to (c.args.base - 1) =
    omega (arith, c.loop-level-test.false, c.loop-level.auto.level-end higher, c.root_of_block-top.ensures.depth) in
    let many = grown_many climbing c.requires.some c.requires.longer c.requires.cover top c.requires.within in
    let one = ap length c.push-2.ensures ∙ length_push _ _ in
    (lit< tt, rw (take_rest c.args.added.now c.loop-level.used) (omega (arith, many, one)))

pub returns-clause-joined : goal.returns-clause-joined
returns-clause-joined c =
    let climbing = c.loop-level.invariant.climbing in
    let higher : c.args.joined.now.low ≤ c.root_of_block-top.result.1 =
    omega (arith, deeper c.args.base c.args.to (c.args.base - 1) (omega (arith, c.requires.some)) (omega (arith, c.requires.longer)), c.requires.low, c.root_of_block-top.ensures.depth) in
    let top : c.loop-level.level ≡ depth_over c.args.to (c.args.base - 1) =
    omega (arith, c.loop-level-test.false, c.loop-level.auto.level-end higher, c.root_of_block-top.ensures.depth) in
    grown_joined climbing c.requires.some c.requires.longer c.requires.cover top c.requires.bytes c.requires.low _ (rw (c.extend.ensures, c.push-2.ensures, take_rest c.args.added.now c.loop-level.used, c.loop-level.invariant.same) refl)

pub returns-clause-same : goal.returns-clause-same
returns-clause-same c = c.loop-level.invariant.same

pub returns-clause-values : goal.returns-clause-values
returns-clause-values c = λ value joins at_old at_added.
    let climbing = c.loop-level.invariant.climbing in
    let higher : c.args.joined.now.low ≤ c.root_of_block-top.result.1 =
    omega (arith, deeper c.args.base c.args.to (c.args.base - 1) (omega (arith, c.requires.some)) (omega (arith, c.requires.longer)), c.requires.low, c.root_of_block-top.ensures.depth) in
    let top : c.loop-level.level ≡ depth_over c.args.to (c.args.base - 1) =
    omega (arith, c.loop-level-test.false, c.loop-level.auto.level-end higher, c.root_of_block-top.ensures.depth) in
    grown_values climbing c.requires.some c.requires.longer c.requires.cover top value (joins, at_old, at_added) _
    (rw (c.extend.ensures, c.push-2.ensures, take_rest c.args.added.now c.loop-level.used, c.loop-level.invariant.same) refl)
