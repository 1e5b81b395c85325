use Rattle.ac_flow_budget.proofs.Stopping.{flow-answered}
use Rattle.ac_flow_budget.proofs.budget_laws.flows_of_differences_stop_by_no_question.Goals as goal

pub returns : goal.returns
returns c = λ e s. flow-answered c.args.budget c.args.m.now e c.requires.lowered c.requires.dimensions c.requires.differences c.requires.budget s
