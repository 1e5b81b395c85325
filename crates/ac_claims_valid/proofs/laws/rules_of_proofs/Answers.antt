use Rattle.ac_claims_valid.proofs.ProofLaw.{valid_proofs_meet_the_rules, rules_name_same_outputs}
use Rattle.ac_claims_valid.proofs.laws.rules_of_proofs.Goals as goal

pub returns-clause-valid : goal.returns-clause-valid
returns-clause-valid c = valid_proofs_meet_the_rules

pub returns-clause-same : goal.returns-clause-same
returns-clause-same c = rules_name_same_outputs
