use Rattle.outside_traits.proofs.Lying.{EndsAt-part}
use Rattle.outside_traits.proofs.lines.search_on.Goals as goal

pub returns : goal.returns
returns c = EndsAt-part c.args.ahead.now c.args.searched c.len_before_feed.result c.min-end.result c.args.max c.requires.no_feed c.requires.within
    c.requires.most c.min-end.ensures
    c.len_before_feed.ensures.within c.len_before_feed.ensures.no_feed c.len_before_feed.ensures.found
