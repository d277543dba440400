use Rattle.std.proofs.Common.{arith}
use Rattle.outside_traits.proofs.Lying.{no_feed-piece}
use Rattle.outside_traits.proofs.lines.len_of_clear_pieces.Goals as goal

pub loop-at-preserved : goal.loop-at-preserved
loop-at-preserved c = record {
  within = omega arith;
  no_feed = no_feed-piece c.args.bytes.now c.loop-at.at _ c.loop-at.invariant.no_feed (c.has_feed.ensures c.if-not-has_feed.true);
}
