use Rattle.ac_claims.proofs.StackSteps.{branch_result, branch_all}
use Rattle.ac_claims.proofs.cases.branch_at.Goals as goal

pub returns-clause-value : goal.returns-clause-value
returns-clause-value c = branch_result c.args.path c.args.branch c.put_further.new.due _ c.onto.result c.onto.ensures c.in_ok-put_further.ensures.dues c.in_ok-put_further.ensures.entries

pub returns-clause-entries : goal.returns-clause-entries
returns-clause-entries c = branch_all c.args.path c.args.branch c.put_further.new.due c.onto.result c.onto.ensures c.in_ok-put_further.ensures.entries
