use Rattle.std.proofs.Common.{◌≡◌, arith, ap, ◌∙◌, ◌/◌, ◌^◌, ◌+◌}
use Rattle.flat_tree.specs.Subtrees.{first_block_of}
use Rattle.flat_tree.specs.Roots.{depth_over}
use Rattle.proof_judge.specs.Meetings.{part_of}
use Rattle.proof_judge.proofs.PartLemmas.{first_below, depth_low, root_low, start_first, root_first}
use Rattle.proof_judge.proofs.part.levels_up.Goals as goal

pub number_above-requires-clause-few : goal.number_above-requires-clause-few
number_above-requires-clause-few g c =
    let is = c.requires.part in
    let d = c.args.part.now.depth in
    let o = c.args.part.now.offset in
    omega (arith, depth_low _ d o is.within, root_low _ d o is.within is.blocks)

pub root_of_block-top-requires-clause-held : goal.root_of_block-top-requires-clause-held
root_of_block-top-requires-clause-held g c =
    let d = c.args.part.now.depth in
    let o = c.args.part.now.offset in
    let at = c.spans-first.ensures.first (d + 0) (o / 2 ^ 0) c.number_above.ensures.number in
    omega (arith, at, start_first d o, first_below _ d o c.requires.part.within, c.head.ensures.length)

pub overflow_sub-levels : goal.overflow_sub-levels
overflow_sub-levels g c =
    let d = c.args.part.now.depth in
    let o = c.args.part.now.offset in
    let at = c.spans-first.ensures.first (d + 0) (o / 2 ^ 0) c.number_above.ensures.number in
    let first : c.spans-first.result.0 / 2 ≡ first_block_of d o = omega (arith, at, start_first d o) in
    let top = c.root_of_block-top.ensures.depth ∙ ap (depth_over c.head.result.length) first ∙ ap (λ n. depth_over n (first_block_of d o)) c.head.ensures.length in
    omega (arith, top, depth_low _ d o c.requires.part.within)

pub returns-clause-few : goal.returns-clause-few
returns-clause-few g c =
    let d = c.args.part.now.depth in
    let o = c.args.part.now.offset in
    let at = c.spans-first.ensures.first (d + 0) (o / 2 ^ 0) c.number_above.ensures.number in
    let first : c.spans-first.result.0 / 2 ≡ first_block_of d o = omega (arith, at, start_first d o) in
    let top = c.root_of_block-top.ensures.depth ∙ ap (depth_over c.head.result.length) first ∙ ap (λ n. depth_over n (first_block_of d o)) c.head.ensures.length in
    let is = c.requires.part in
    omega (arith, top, depth_low _ d o is.within, root_low _ d o is.within is.blocks)

pub returns-clause-first : goal.returns-clause-first
returns-clause-first g c =
    let d = c.args.part.now.depth in
    let o = c.args.part.now.offset in
    let at = c.spans-first.ensures.first (d + 0) (o / 2 ^ 0) c.number_above.ensures.number in
    let first : c.spans-first.result.0 / 2 ≡ first_block_of d o = omega (arith, at, start_first d o) in
    let top = c.root_of_block-top.ensures.depth ∙ ap (depth_over c.head.result.length) first ∙ ap (λ n. depth_over n (first_block_of d o)) c.head.ensures.length in
    let is = c.requires.part in
    root_first _ _ (part_of c.args.part.now) _ is.within (omega (arith, top, depth_low _ d o is.within))
    (λ level less. c.loop-level.invariant level (omega (arith, less, c.loop-level-test.false)))
