use Rattle.std.proofs.Common.{◌≡◌, ◌+◌, true, replicate}
use Rattle.commit_book.specs.Seats.{IsSeated}
use Rattle.commit_book.specs.States.{new_pass}
use Rattle.commit_book.proofs.laid.deal_all.Given as goal

-- so many passes are made, and the rest of each ledger is left
abbrev pub invariant-loop-i : goal.invariant-loop-i
invariant-loop-i g l = record {
  seat : IsSeated g.N.Named.book true l.seat;
  same : l.seat.me.0 ≡ l.fn.seat.me.0;
  commits : l.commits.parts + l._i ≡ l.passes;
  made : l.commits.amount ≡ 0;
  mark_parts : l.marks.parts + l._i ≡ l.passes;
  marks : l.marks.amount ≡ 0;
  list : l.list.items ≡ replicate l._i new_pass;
}
