use Rattle.outside_traits.proofs.Cutting.{cut_at-place}
use Rattle.outside_traits.proofs.blobs.list_at.Goals as goal

pub slice_bounds-result-count : goal.slice_bounds-result-count
slice_bounds-result-count c = rw c.start_of-from.ensures (cut_at-place c.args.bytes.now c.args.ends.now 0 c.args.place c.requires.shape
    c.requires.within).ordered

pub slice_bounds-result-start : goal.slice_bounds-result-start
slice_bounds-result-start c = rw c.start_of-from.ensures (cut_at-place c.args.bytes.now c.args.ends.now 0 c.args.place c.requires.shape
    c.requires.within).ordered

pub slice_bounds-result-end : goal.slice_bounds-result-end
slice_bounds-result-end c = (cut_at-place c.args.bytes.now c.args.ends.now 0 c.args.place c.requires.shape c.requires.within).within

pub returns : goal.returns
returns c = rw c.start_of-from.ensures (cut_at-place c.args.bytes.now c.args.ends.now 0 c.args.place c.requires.shape c.requires.within).found
