use Rattle.std.proofs.Common.{◌+◌, arith, length}
use Rattle.outside_traits.specs.LinePlaces.{EndsAt}
use Rattle.outside_traits.proofs.Lying.{EndsAt-part}
use Rattle.outside_traits.proofs.lines.len_before_feed.Goals as goal

pub returns : goal.returns
returns c =
    let bytes = c.args.bytes.now in
    let clear = c.len_of_clear_pieces-clear.ensures in
    let near = c.len_before_near_feed.ensures in
    let end : EndsAt bytes (length bytes) (c.len_of_clear_pieces-clear.result + c.len_before_near_feed.result) =
    EndsAt-part bytes _ _ (length bytes) (length bytes) clear.no_feed clear.within (omega (arith, clear.within)) (omega arith)
    near.within near.no_feed near.found in
    record { within = end.within; no_feed = end.no_feed; found = λ less. end.feed less (omega (arith, less)) }
