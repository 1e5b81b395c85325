use Rattle.ac_flow_budget.proofs.Bodies.{program-differs}
use Rattle.ac_flow_budget.proofs.budget_laws.programs_of_differences.Goals as goal

pub returns : goal.returns
returns c = program-differs c.args.program.now c.args.context.now c.requires
