use Rattle.ac_unfold.proofs.Behind.{branched_ok}
use Rattle.ac_unfold.proofs.course.behind.Goals as goal

pub returns : goal.returns
returns c = branched_ok c.branch_plan.result c.args.branch c.args.inside c.branch_plan.ensures.serves c.branch_plan.ensures.branches
