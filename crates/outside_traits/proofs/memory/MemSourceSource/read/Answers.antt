use Rattle.std.proofs.Common.{refl, ap, ◌∙◌, arith}
use Rattle.outside_traits.specs.Faults.{count_fault}
use Rattle.outside_traits.proofs.memory.MemSourceSource.read.Goals as goal

pub returns-then-next-clause-reads : goal.returns-then-next-clause-reads
returns-then-next-clause-reads c = rw (← c.self.view_is) (record {
  within = tt;
  given = refl;
  left = refl;
  faults = record {
    kept = omega (arith, c.fail.ensures.kept, c.next.ensures.faults);
    one = c.fail.ensures.faults ∙ ap count_fault c.next.ensures.faults;
  };
})
