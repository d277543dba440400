use Rattle.core_disk.proofs.LaidLemmas.{content_is, opened_in}
use Rattle.core_disk.proofs.laid_laws.what_is_laid_is_the_content.Goals as goal

pub returns-clause-content : goal.returns-clause-content
returns-clause-content c area o m opened sound has = content_is area o m opened sound has

pub returns-clause-opened : goal.returns-clause-opened
returns-clause-opened c area o rooted = opened_in area o rooted
