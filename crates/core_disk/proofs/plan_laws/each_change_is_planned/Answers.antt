use Rattle.core_disk.proofs.ChangePlans.{append_plans, truncate_plans, clear_plans, admit_plans}
use Rattle.core_disk.proofs.plan_laws.each_change_is_planned.Goals as goal

pub returns-clause-append : goal.returns-clause-append
returns-clause-append c accepts m more signature e whole some fits signed entry entry_fits =
    append_plans accepts m more signature e whole some fits signed entry entry_fits

pub returns-clause-truncate : goal.returns-clause-truncate
returns-clause-truncate c accepts m to fork signature e whole none signed entry entry_fits =
    truncate_plans accepts m to fork signature e whole none signed entry entry_fits

pub returns-clause-clear : goal.returns-clause-clear
returns-clause-clear c accepts m from to whole ordered within some = clear_plans accepts m from to whole ordered within some

pub returns-clause-admit : goal.returns-clause-admit
returns-clause-admit c accepts p m commit e whole fits no_greater none told entry entry_fits =
    admit_plans accepts p m whole fits no_greater none commit e told entry entry_fits
