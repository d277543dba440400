use Rattle.std.proofs.Common.{ℕ, ◌<◌, Any, sym, subst}
use mathlib.Core.Logic.{◌↔◌}
use Rattle.commit_book.specs.States.{IsMarked}
use Rattle.commit_book.proofs.Marks.{marked}
use Rattle.commit_book.proofs.book.Book.close.Goals as goal

pub returns-clause-marked : goal.returns-clause-marked
returns-clause-marked g c = subst (λ (n : ℕ). (0 < n) ↔ Any IsMarked c.args.passes.items) (sym c.end.ensures.marks) (marked c.args.passes.items)
