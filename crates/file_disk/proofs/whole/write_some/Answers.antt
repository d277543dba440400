use Rattle.std.proofs.Common.{◌∙◌, ℕ, Err, ap, subst, arith}
use Rattle.file_disk.specs.Files.{Tries}
use Rattle.file_disk.specs.declared.fault.CallFault.{CallFault}
use Rattle.file_disk.proofs.Retrying.{rewriting_starts, retrying_goes_on, unwritten_on, written_after, write_failed}
use Rattle.file_disk.proofs.whole.write_some.Goals as goal

pub loop-init : goal.loop-init
loop-init g c = rewriting_starts _ _ _ _

pub returns-in-Ok-clause-writes : goal.returns-in-Ok-clause-writes
returns-in-Ok-clause-writes g c = λ honest. written_after _ _ _ _ _ _ (c.loop.invariant.unwritten honest) _ (c.in-Ok.ensures.writes (c.loop.invariant.retrying.steady.honest ∙ honest))

pub returns-in-Err-Failed-clause-writes : goal.returns-in-Err-Failed-clause-writes
returns-in-Err-Failed-clause-writes g c = λ honest. write_failed _ _ _ _ _ _ (c.loop.invariant.unwritten honest) _ _ (c.in-Err-Failed.ensures.writes (c.loop.invariant.retrying.steady.honest ∙ honest))

pub loop-preserved : goal.loop-preserved
loop-preserved g c =
    let is = c.in-Err-Interrupted.field-0-is in
    record {
      retrying = retrying_goes_on _ _ _ _ c.loop.invariant.retrying (omega arith) (subst (λ (e : CallFault). Tries {T = ℕ} (g.F.CoreFiles.files c.loop.files) (g.F.CoreFiles.files c.write_at.new.self) (Err e)) is c.in-Err-Interrupted.ensures.tries);
      unwritten = λ honest.
          let now = c.loop.invariant.retrying.steady.honest ∙ honest in
          unwritten_on _ _ _ _ _ _ (c.loop.invariant.unwritten honest) _ (c.in-Err-Interrupted.ensures.writes now) (c.in-Err-Interrupted.ensures.interrupted now (ap (λ (e : CallFault). Err e) is));
    }
