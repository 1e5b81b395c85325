use Rattle.ac_widen_programs.specs.PairSetting.{setting}
use Rattle.ac_walk_state.proofs.Standing.{claim_rows_are, claim_in_hull}
use Rattle.ac_walk_state.proofs.recurrence_pair_laws.claims_are_of_members.Goals as goal

pub returns-clause-rows : goal.returns-clause-rows
returns-clause-rows c = λ pair outputs recurrent template. claim_rows_are (setting pair outputs recurrent template)

pub returns-clause-hulls : goal.returns-clause-hulls
returns-clause-hulls c = claim_in_hull
