use Rattle.std.proofs.Common.{subst, sym, ◌<◌}
use Rattle.core_disk.proofs.ChangeWrites.{entry_some}
use Rattle.core_disk.proofs.writing.spell.Goals as goal

pub returns-clause-some : goal.returns-clause-some
returns-clause-some c = subst (λ n. 0 < n) (sym c.write_entry.ensures.place) (entry_some c.args.entry.now c.requires.fits)
