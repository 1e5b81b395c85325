use Rattle.ac_widen_programs.proofs.Calling.{orders_are_taken}
use Rattle.ac_widen_programs.proofs.Trails.{orders_may_change}
use Rattle.ac_widen_programs.proofs.pair_path_laws.orders_are_chosen.Goals as goal

pub returns-clause-taken : goal.returns-clause-taken
returns-clause-taken c = orders_are_taken

pub returns-clause-others : goal.returns-clause-others
returns-clause-others c = orders_may_change
