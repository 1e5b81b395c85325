use Rattle.ac_flow_budget.proofs.Answered.{program-flow, program-context}
use Rattle.ac_flow_budget.proofs.budget_laws.programs_of_differences_stop_by_no_question.Goals as goal

pub returns-clause-flow : goal.returns-clause-flow
returns-clause-flow c = λ e s. program-flow c.args.program.now c.args.context.now c.args.budget e c.requires.ready c.requires.fit c.requires.dimensions c.requires.differences c.requires.budget s

pub returns-clause-context : goal.returns-clause-context
returns-clause-context c = λ e s. program-context c.args.program.now c.args.context.now c.args.budget e c.requires.ready c.requires.fit c.requires.differences c.requires.budget s
