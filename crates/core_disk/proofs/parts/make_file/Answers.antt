use Rattle.std.proofs.Common.{sym, subst, IsTrue}
use Rattle.oplog_form.specs.Headers.{header_spelling}
use Rattle.core_disk.proofs.PartLemmas.{has_new_file}
use Rattle.core_disk.proofs.parts.make_file.Goals as goal

pub returns-in-Ok-clause-makes : goal.returns-in-Ok-clause-makes
returns-in-Ok-clause-makes g c honest =
    has_new_file (header_spelling c.args.header.now) (g.D.Disk.disk c.clear_rest.new.disk) (g.D.Disk.disk c.make_new.new.disk) c.make_new.result
    (c.make_new.ensures.makes (subst (λ b. IsTrue b) (sym c.in-Ok.ensures.counts.honest) honest)) (c.in-Ok.ensures.cleared honest)
