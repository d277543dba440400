use Rattle.std.proofs.Common.{refl}
use Rattle.core_disk.proofs.HandedLemmas.{start_shown}
use Rattle.core_disk.proofs.disk_core.DiskCore.make_new.Goals as goal

pub returns-in-Ok-make_parts-clause-made : goal.returns-in-Ok-make_parts-clause-made
returns-in-Ok-make_parts-clause-made g c =
    let made = c.in-Ok-make_parts.ensures in
    record {
      by = refl;
      unbroken = refl;
      honest = rw (c.over.ensures.disk) made.counts.honest;
      content = rw (c.over.ensures.hand) (start_shown (g.D.Disk.disk c.over.result.disk) c.in-Ok-make_parts.state made.opened);
      firm = λ honest. rw (c.over.ensures.disk) (made.firm (g.A.Verifier.accepts c.args.auth) honest);
    }
