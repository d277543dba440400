use Rattle.std.proofs.Common.{◌∙◌}
use Rattle.oplog_file.proofs.FillLaws.{given_back}
use Rattle.oplog_file.proofs.WriteLaws.{remakes_there, makes_file, make_failed, make_none}
use Rattle.oplog_file.proofs.file.OplogFile.make_new.Goals as goal

pub returns-in_default-clause-makes : goal.returns-in_default-clause-makes
returns-in_default-clause-makes g c = λ honest. make_none _ _ _

pub returns-in-Ok-remake-clause-makes : goal.returns-in-Ok-remake-clause-makes
returns-in-Ok-remake-clause-makes g c = λ honest.
    makes_file _ _ _ _ _ c.fill_header-end.ensures.few
    (remakes_there _ _ _ _ _ (given_back _ _ _ _ _ _ c.deref.ensures.value (c.fill_header-end.ensures.size ∙ c.deref_mut.ensures.len) c.fill_header-end.ensures.spelled) (c.in-Ok-remake.ensures.remakes honest))

pub returns-in-Err-clause-makes : goal.returns-in-Err-clause-makes
returns-in-Err-clause-makes g c = λ honest.
    make_failed _ _ _ _ _
    (remakes_there _ _ _ _ _ (given_back _ _ _ _ _ _ c.deref.ensures.value (c.fill_header-end.ensures.size ∙ c.deref_mut.ensures.len) c.fill_header-end.ensures.spelled) (c.in-Err.ensures.remakes honest))
