use Rattle.core_disk.proofs.StandingDisks.{firmly, same_firmly, same_reads}
use Rattle.core_disk.proofs.change_laws.a_firm_disk_stands_firmly.Goals as goal

pub returns-clause-firmly : goal.returns-clause-firmly
returns-clause-firmly g c accepts id disk place m honest firm =
    firmly accepts id (g.D.Disk.disk disk) place m honest (g.met.D.Disk.may_stay disk honest) firm

pub returns-clause-same : goal.returns-clause-same
returns-clause-same g c accepts id old new m same stands = same_firmly accepts id (g.D.Disk.disk old) (g.D.Disk.disk new) m same stands

pub returns-clause-same_reads : goal.returns-clause-same_reads
returns-clause-same_reads g c accepts id old new m same stands = same_reads accepts id (g.D.Disk.disk old) (g.D.Disk.disk new) m same stands
