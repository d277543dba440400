use Rattle.hypercore_cli.proofs.BundleReads.{count_rose}
use Rattle.hypercore_cli.proofs.LimitLemmas.{AppendFits-log}
use Rattle.hypercore_cli.proofs.Verifiers.{IsBundleOf-made}
use Rattle.hypercore_cli.proofs.prove.prove_in.Goals as goal

pub prove_block-requires : goal.prove_block-requires
prove_block-requires g c = record { fits = AppendFits-log c.args.log.now c.requires }

pub returns-in-Ok : goal.returns-in-Ok
returns-in-Ok g c = (
  count_rose _ _ c.in-Err.ensures.all.faults.one,
  c.prove_block.new.out.items,
  IsBundleOf-made _ _ c.args.log.now c.args.index c.new-bundle.result.items c.prove_block.new.out.items _ c.auth.ensures c.new-bundle.ensures.items c.in-Ok.ensures.ok c.in-Ok.ensures.out_of_range.1,
  rw (← c.as_slice.ensures.value) c.in-Err.ensures.all.holds,
)
