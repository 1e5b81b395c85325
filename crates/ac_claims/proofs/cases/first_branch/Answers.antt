use Rattle.ac_claims.proofs.BranchSteps.{first_result}
use Rattle.ac_claims.proofs.cases.first_branch.Goals as goal

pub returns-clause-value : goal.returns-clause-value
returns-clause-value c = first_result c.args.path c.args.left c.pop.new.self c.in-Some.branch c.branch_at.new.due c.args.due.now c.branch_at.result c.in-Some.ensures c.branch_at.ensures.value
