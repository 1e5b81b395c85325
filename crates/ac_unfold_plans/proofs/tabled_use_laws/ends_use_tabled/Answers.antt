use Rattle.ac_unfold_plans.proofs.Heeding.{hits_use_tabled, initial_cells_use_tabled, kills_use_tabled, numbers_use_tabled}
use Rattle.ac_unfold_plans.proofs.tabled_use_laws.ends_use_tabled.Goals as goal

pub returns-clause-kills : goal.returns-clause-kills
returns-clause-kills c = kills_use_tabled

pub returns-clause-hits : goal.returns-clause-hits
returns-clause-hits c = hits_use_tabled

pub returns-clause-numbers : goal.returns-clause-numbers
returns-clause-numbers c = numbers_use_tabled

pub returns-clause-initials : goal.returns-clause-initials
returns-clause-initials c = initial_cells_use_tabled
