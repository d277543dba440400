use Rattle.core_disk.proofs.FirmLaws.{change_commits, unfirmed, between_keeps, commits_after_reads, commits_then_reads}
use Rattle.core_disk.proofs.change_laws.a_change_commits.Goals as goal

pub returns-clause-commits : goal.returns-clause-commits
returns-clause-commits g c accepts id m after commit e part place now old new answer honest makes =
    change_commits accepts id m after commit e part place now (g.D.Disk.disk old) (g.D.Disk.disk new) answer (g.met.D.Disk.may_stay old honest) makes

pub returns-clause-reads_before : goal.returns-clause-reads_before
returns-clause-reads_before g c accepts id m after e place now old mid new answer firm keeps made =
    commits_after_reads accepts id m after e now (g.D.Disk.disk old) (g.D.Disk.disk mid) (g.D.Disk.disk new) answer place firm keeps made

pub returns-clause-reads_after : goal.returns-clause-reads_after
returns-clause-reads_after g c accepts id m after e now old mid new answer made keeps =
    commits_then_reads accepts id m after e now (g.D.Disk.disk old) (g.D.Disk.disk mid) (g.D.Disk.disk new) answer made keeps

pub returns-clause-between : goal.returns-clause-between
returns-clause-between g c accepts id m after commit e part place now old new answer honest makes =
    unfirmed accepts id m after commit e part place now (g.D.Disk.disk old) (g.D.Disk.disk new) answer (g.met.D.Disk.may_stay old honest) makes

pub returns-clause-keeps : goal.returns-clause-keeps
returns-clause-keeps g c accepts id oplog m after e old new left keeps =
    between_keeps accepts id oplog m after e (g.D.Disk.disk old) (g.D.Disk.disk new) left keeps
