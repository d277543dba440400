use Rattle.std.proofs.Common.{◌<◌, subst}
use Rattle.flat_tree.specs.declared.limits.TheConstants.{MAX_BATCH_BLOCKS}
use Rattle.hypercore_cli.proofs.BatchLemmas.{is_full_for-few}
use Rattle.hypercore_cli.proofs.batches.is_full.Goals as goal

pub returns-else-len-ge-MAX_BATCH_BLOCKS : goal.returns-else-len-ge-MAX_BATCH_BLOCKS
returns-else-len-ge-MAX_BATCH_BLOCKS c =
    is_full_for-few c.args.batch.now c.flat.result.now c.args.line.now
    (subst (λ n. n < MAX_BATCH_BLOCKS) c.len.ensures c.if-len-ge-MAX_BATCH_BLOCKS.false) c.flat.ensures
