use Rattle.ac_unfold_plans.proofs.Deciding.{searches_say_equal, stopped_proofs_decide, stopped_proofs_stand}
use Rattle.ac_unfold_plans.proofs.decision_laws.stopped_proofs_decide.Goals as goal

pub returns-clause-decide : goal.returns-clause-decide
returns-clause-decide c = stopped_proofs_decide

pub returns-clause-stand : goal.returns-clause-stand
returns-clause-stand c = stopped_proofs_stand

pub returns-clause-search : goal.returns-clause-search
returns-clause-search c = searches_say_equal
