use Rattle.std.proofs.Common.{rules}
use Rattle.ac_unfold.proofs.TaskRuns.{branch_closed, branch_missing}
use Rattle.ac_unfold.proofs.kills.close_branch.Goals as goal

pub returns-in_default-clause-closes : goal.returns-in_default-clause-closes
returns-in_default-clause-closes c = branch_missing c.args.embedding c.args.row c.args.around.items c.args.plans.now.items c.pop.new.self.items c.replace-outside.new.dest.items c.pop.result (search rules) c.in_default.is

pub returns-clause-closes : goal.returns-clause-closes
returns-clause-closes c =
    let outside = c.pop.new.self.items in
    branch_closed c.args.embedding c.args.row c.args.around.items c.args.plans.now.items outside c.push.new.self.items c.in-Some.inside c.in_ok-plan.plan (search rules) c.in_ok-plan.ensures.serves c.in_ok-plan.ensures.branches (search rules)
