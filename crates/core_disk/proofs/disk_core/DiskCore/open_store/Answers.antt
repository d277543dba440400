use Rattle.std.proofs.Common.{refl}
use Rattle.core_disk.proofs.HandedLemmas.{content_shown, signed_shown}
use Rattle.core_disk.proofs.disk_core.DiskCore.open_store.Goals as goal

pub returns-in-Ok-open_parts-clause-opened : goal.returns-in-Ok-open_parts-clause-opened
returns-in-Ok-open_parts-clause-opened g c =
    let accepts = g.A.Verifier.accepts c.args.auth in
    let old = g.D.Disk.disk c.args.disk in
    let new = g.D.Disk.disk c.open_parts.new.disk in
    let is = c.in-Ok-open_parts.ensures in
    rw (c.over.ensures.hand, c.over.ensures.disk)
    (record {
      by = refl;
      unbroken = refl;
      signed = signed_shown accepts new c.in-Ok-open_parts.state is.rooted is.signed;
      opens = is.opens;
      content = λ m honest stands.
          let opened = is.opened m honest stands in
          content_shown accepts c.args.id.now old new c.in-Ok-open_parts.state m honest is.counts.honest (is.blocks honest) stands opened;
      firm = is.firm;
      leaves = record { honest = is.counts.honest; blocks = is.blocks; any_moment = is.any_moment };
    })
