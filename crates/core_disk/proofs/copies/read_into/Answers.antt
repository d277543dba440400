use Rattle.core_disk.proofs.CopyLemmas.{tells_checked}
use Rattle.core_disk.proofs.copies.read_into.Goals as goal

pub returns-in-Ok-clause-tells : goal.returns-in-Ok-clause-tells
returns-in-Ok-clause-tells g c honest =
    tells_checked c.args.epoch c.args.want (g.D.Disk.disk c.args.disk.now).reads c.args.blocks c.copy_area-area.result _ c.check_copy.result c.copy_area-area.ensures (c.in-Ok.ensures.held honest) c.check_copy.ensures
