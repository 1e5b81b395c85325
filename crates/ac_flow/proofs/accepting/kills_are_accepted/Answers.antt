use Rattle.ac_flow.proofs.Acceptance.{standing_accepted, there_accepted, own_accepted, ends_plans}
use Rattle.ac_flow.proofs.accepting.kills_are_accepted.Goals as goal

pub returns-clause-standing : goal.returns-clause-standing
returns-clause-standing c = standing_accepted

pub returns-clause-there : goal.returns-clause-there
returns-clause-there c = there_accepted

pub returns-clause-own : goal.returns-clause-own
returns-clause-own c = own_accepted

pub returns-clause-ends : goal.returns-clause-ends
returns-clause-ends c = ends_plans
