use Rattle.ac_unfold_plans.proofs.Heeding.{branches_use_tabled, further_rows_use_tabled}
use Rattle.ac_unfold_plans.proofs.tabled_use_laws.branches_use_tabled.Goals as goal

pub returns-clause-branches : goal.returns-clause-branches
returns-clause-branches c = branches_use_tabled

pub returns-clause-further : goal.returns-clause-further
returns-clause-further c = further_rows_use_tabled
