use Rattle.hypercore_cli.proofs.ExtendLemmas.{refused_append}
use Rattle.hypercore_cli.proofs.append.append.Goals as goal

pub returns-in-Err-clause-extends : goal.returns-in-Err-clause-extends
returns-in-Err-clause-extends g c = refused_append _ _ _ _ c.in-Err.outcome c.in-Err.ensures.fills
