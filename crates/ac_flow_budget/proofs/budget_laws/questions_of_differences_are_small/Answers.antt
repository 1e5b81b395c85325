use Rattle.ac_flow_budget.proofs.Asked.{never-wide, never-spent, never-large, gone-cost}
use Rattle.ac_flow_budget.proofs.Questions.{question-narrow, small-question}
use Rattle.ac_flow_budget.proofs.budget_laws.questions_of_differences_are_small.Goals as goal

pub returns-clause-rows : goal.returns-clause-rows
returns-clause-rows c = λ q a. small-question c.args.budget c.args.m.now q c.requires.lowered c.requires.dimensions c.requires.differences a

pub returns-clause-cost : goal.returns-clause-cost
returns-clause-cost c = λ q k s a e. gone-cost c.args.strategy c.args.budget k s q (question-narrow c.args.budget c.args.m.now q c.requires.lowered c.requires.dimensions c.requires.differences a) e

pub returns-clause-never_wide : goal.returns-clause-never_wide
returns-clause-never_wide c = λ q a w. never-wide c.args.strategy c.args.budget q (question-narrow c.args.budget c.args.m.now q c.requires.lowered c.requires.dimensions c.requires.differences a) w

pub returns-clause-never_spent : goal.returns-clause-never_spent
returns-clause-never_spent c = λ q k enough a w. never-spent c.args.strategy c.args.budget k q enough (question-narrow c.args.budget c.args.m.now q c.requires.lowered c.requires.dimensions c.requires.differences a) w

pub returns-clause-never_large : goal.returns-clause-never_large
returns-clause-never_large c = λ q a w. never-large c.args.strategy c.args.budget q (question-narrow c.args.budget c.args.m.now q c.requires.lowered c.requires.dimensions c.requires.differences a) w
