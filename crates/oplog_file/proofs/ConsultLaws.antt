-- How calls that only read follow one another.
use Rattle.std.proofs.Common.{ℕ, ◌≤◌, IsTrue, List, Result, sym, subst, ◌∙◌, arith}
use Rattle.outside_traits.specs.Faults.{count_fault}
use Rattle.disk_trait.specs.Disk.{DiskView}
use Rattle.disk_trait.specs.declared.disk.Area.TheVariants.{Oplog}
use Rattle.disk_trait.proofs.Runs.{keeps_keeps}
use Rattle.node_set.specs.declared.fault.CoreFault.{CoreFault}
use Rattle.oplog_file.specs.Passing.{Consults}

module _ {T : Type 0} (old mid : DiskView) (first : Result T CoreFault) (one : Consults {T = T} old mid first) where
  -- an honest disk stays one
  pub honest_still : IsTrue old.honest → IsTrue mid.honest
  honest_still honest = subst (λ b. IsTrue b) (sym one.honest) honest

  -- what the next call tells of its area is told of that of before
  pub told_before : (P : List ℕ → Type 0) → IsTrue old.honest → (IsTrue mid.honest → P (mid.reads Oplog)) → P (old.reads Oplog)
  told_before P honest told = subst P ((one.keeps honest).each Oplog).reads (told (honest_still honest))

-- one call, and then another
pub consults_then : {T S : Type 0} (old mid new : DiskView) (first : Result T CoreFault) (second : Result S CoreFault) → Consults {T = T} old mid first → Consults {T = S} mid new second → Consults {T = S} old new second
consults_then old mid new first second one other = record {
  honest = other.honest ∙ one.honest;
  kept = omega (arith, one.kept, other.kept);
  rose = λ is. let here : count_fault mid.faults ≤ new.faults = other.rose is in omega (arith, one.kept, here);
  keeps = λ honest. keeps_keeps old mid new (one.keeps honest) (other.keeps (honest_still old mid first one honest));
}
