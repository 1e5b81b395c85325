use Rattle.ac_claims_plans.proofs.Starting.{follow_themselves, accepted_at_starts}
use Rattle.ac_claims_plans.proofs.question_laws.starts.Goals as goal

pub returns-clause-follow : goal.returns-clause-follow
returns-clause-follow c = follow_themselves

pub returns-clause-accepted : goal.returns-clause-accepted
returns-clause-accepted c = accepted_at_starts
