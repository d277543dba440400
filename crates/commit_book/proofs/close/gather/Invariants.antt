use Rattle.std.proofs.Common.{◌≡◌, ◌≤◌, true, length, All}
use Rattle.commit_book.specs.States.{HasSeen, made_of, marks_of}
use Rattle.commit_book.specs.Seats.{IsSeated}
use Rattle.commit_book.proofs.close.gather.Given as goal

-- the passes so far are taken in
abbrev pub invariant-loop-pass : goal.invariant-loop-pass
invariant-loop-pass g l = record {
  can_next : (goal.iterator-loop-pass g).can_next l.pass-iterator;
  is_finite : (goal.iterator-loop-pass g).is_finite l.pass-iterator;
  seat : IsSeated g.N.Named.book true l.seat;
  same : l.seat.me.0.seen ≡ l.fn.seat.me.0.seen;
  seen : All (HasSeen l.fn.seat.me.0.seen) l.yielded;
  parts : l.made.parts ≡ length l.yielded;
  all : l.made.parts ≤ g.N.Ledger.parts;
  made : l.made.amount ≡ made_of l.yielded;
  mark_parts : l.marked.parts ≡ length l.yielded;
  marks : l.marked.amount ≡ marks_of l.yielded;
}
