use Rattle.std.proofs.Common.{◌+◌, ◌*◌, arith}
use Rattle.bit_field.proofs.Ranges.{all_join, first_later}
use Rattle.bit_field.proofs.WordSearch.{IsRest, none_in_rest, first_in_rest}
use Rattle.bit_field.proofs.search.next_in_words.Goals as goal
use Rattle.bit_field.proofs.search.next_in_words.Goals.{After-turned-word}

left : (c : After-turned-word) → IsRest c.args.words.now (64 * c.loop-at.at) c.loop-at.at 0 c.turned-word.result c.turned-word.result c.args.bit
left c = record {
  starts = omega arith;
  within = omega (arith, c.loop-at-test.true, c.requires.within);
  small = omega arith;
  fits = c.turned-word.type_inv;
  turns = c.turned-word.ensures;
  rests = omega arith;
}

pub returns-then-word-ne0 : goal.returns-then-word-ne0
returns-then-word-ne0 c =
    let first = first_in_rest _ _ _ _ _ _ _ (left (goal.at.returns-then-word-ne0 c).After-turned-word) c.args.end c.loop-at-test.true (omega arith) in
    first_later _ (64 * c.args.first) (64 * c.loop-at.at) _ _ (omega arith) c.loop-at.invariant _ first

pub loop-at-preserved : goal.loop-at-preserved
loop-at-preserved c =
    let none = none_in_rest _ _ _ _ _ _ _ (left (goal.at.loop-at-preserved c).After-turned-word) c.if-word-ne0.false in
    all_join _ (64 * c.args.first) (64 * c.loop-at.at) (64 * (c.loop-at.at + 1)) _ c.loop-at.invariant none
