use Rattle.ac_flow_budget.proofs.Stopping.{context-answered}
use Rattle.ac_flow_budget.proofs.budget_laws.contexts_of_differences_are_answered.Goals as goal

pub returns : goal.returns
returns c = λ e s. context-answered c.args.budget c.args.m.now e c.requires.lowered c.requires.differences c.requires.budget s
