use Rattle.ac_unfold_plans.proofs.Stopping.{hits_stop, initial_cells_stop, kills_stop, numbers_stop}
use Rattle.ac_unfold_plans.proofs.plan_stop_laws.ends_stop.Goals as goal

pub returns-clause-kills : goal.returns-clause-kills
returns-clause-kills c = kills_stop

pub returns-clause-hits : goal.returns-clause-hits
returns-clause-hits c = hits_stop

pub returns-clause-numbers : goal.returns-clause-numbers
returns-clause-numbers c = numbers_stop

pub returns-clause-initials : goal.returns-clause-initials
returns-clause-initials c = initial_cells_stop
