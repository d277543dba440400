use Rattle.core_disk.proofs.FirmLaws.{firm_stands, firm_keeps, firm_there}
use Rattle.core_disk.proofs.change_laws.a_firm_disk_stands.Goals as goal

pub returns-clause-crash : goal.returns-clause-crash
returns-clause-crash g c accepts id disk place m areas firm image = firm_stands accepts id (g.D.Disk.disk disk) place m firm areas image

pub returns-clause-reads : goal.returns-clause-reads
returns-clause-reads g c accepts id disk place m honest firm =
    firm_stands accepts id (g.D.Disk.disk disk) place m firm (g.D.Disk.disk disk).reads (g.met.D.Disk.may_stay disk honest)

pub returns-clause-keeps : goal.returns-clause-keeps
returns-clause-keeps g c accepts id old new place m firm keeps = firm_keeps accepts id (g.D.Disk.disk old) place m firm (g.D.Disk.disk new) keeps

pub returns-clause-there : goal.returns-clause-there
returns-clause-there g c accepts id disk place now m firm stands = firm_there accepts id (g.D.Disk.disk disk) place m firm now stands
