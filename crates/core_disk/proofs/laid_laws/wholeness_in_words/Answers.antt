use Rattle.core_disk.proofs.Testing.{kept_told, told_kept, whole_told, told_whole, has_told, told_has}
use Rattle.core_disk.proofs.LaidLemmas.{bounded_in}
use Rattle.core_disk.proofs.laid_laws.wholeness_in_words.Goals as goal

pub returns-clause-kept : goal.returns-clause-kept
returns-clause-kept c m bounded = (kept_told m bounded, λ both. told_kept m both.0 both.1)

pub returns-clause-whole : goal.returns-clause-whole
returns-clause-whole c accepts m bounded = (whole_told accepts m bounded, told_whole accepts m)

pub returns-clause-blocks : goal.returns-clause-blocks
returns-clause-blocks c area m bounded = (has_told area m bounded, told_has area m)

pub returns-clause-bounded : goal.returns-clause-bounded
returns-clause-bounded c area o below = bounded_in area o below
