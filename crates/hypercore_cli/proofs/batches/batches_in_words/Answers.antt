use Rattle.hypercore_cli.proofs.BatchCuts.{within_fits, within_joined, only_right}
use Rattle.hypercore_cli.proofs.batches.batches_in_words.Goals as goal

pub returns-clause-cut : goal.returns-clause-cut
returns-clause-cut c most_blocks most_bytes blocks some all = within_fits most_blocks most_bytes some blocks all

pub returns-clause-joined : goal.returns-clause-joined
returns-clause-joined c most_blocks most_bytes blocks = within_joined most_blocks most_bytes blocks

pub returns-clause-only : goal.returns-clause-only
returns-clause-only c most_blocks most_bytes batches right = only_right most_blocks most_bytes batches right
