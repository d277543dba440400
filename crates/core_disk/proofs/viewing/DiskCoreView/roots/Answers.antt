use Rattle.std.proofs.Common.{ap, ◌∙◌}
use Rattle.node_set.specs.Contents.{roots}
use Rattle.core_disk.specs.Cored.{Cored, shown}
use Rattle.core_disk.proofs.viewing.DiskCoreView.roots.Goals as goal

pub returns : goal.returns
returns g c = c.roots.ensures ∙ ap (λ (core : Cored _ _). roots (shown g.D.Disk.disk core)) c.self.view_is
