use Rattle.std.proofs.Common.{◌+◌, ◌*◌, ◌/◌, ◌%◌, ◌^◌, refl, arith}
use Rattle.bit_field.proofs.Ranges.{finds_later}
use Rattle.bit_field.proofs.WordSearch.{IsRest, none_in_rest, first_in_rest}
use Rattle.bit_field.proofs.search.next_from.Goals as goal
use Rattle.bit_field.proofs.search.next_from.Goals.{After-turned}

left : (c : After-turned)
    → IsRest c.args.words.now c.args.from (c.args.from / 64) (c.args.from % 64) c.turned.result (c.turned.result / 2 ^ (c.args.from % 64)) c.args.bit
left c = record {
  starts = omega arith;
  within = omega arith;
  small = omega arith;
  fits = c.turned.type_inv;
  turns = c.turned.ensures;
  rests = refl;
}

pub returns-then-rest-ne0 : goal.returns-then-rest-ne0
returns-then-rest-ne0 c = first_in_rest _ _ _ _ _ _ _ (left (goal.at.returns-then-rest-ne0 c).After-turned) c.args.end (omega arith) (omega arith)

pub returns : goal.returns
returns c =
    let none = none_in_rest _ _ _ _ _ _ _ (left (goal.at.returns c).After-turned) c.if-rest-ne0.false in
    finds_later _ c.args.from (64 * (c.args.from / 64 + 1)) _ _ (omega arith) none _ c.next_in_words.ensures
