use Rattle.ac_cert.proofs.Behind.{steps-onto, steps-keep}
use Rattle.ac_cert.proofs.laws.rows_behind_steps.Goals as goal

pub returns-clause-rows : goal.returns-clause-rows
returns-clause-rows c = λ b d behind. let on = steps-onto c.args.steps.now b d behind in (on.more, on.rows)

pub returns-clause-columns : goal.returns-clause-columns
returns-clause-columns c = λ b d behind. (steps-onto c.args.steps.now b d behind).columns

pub returns-clause-keeps : goal.returns-clause-keeps
returns-clause-keeps c = λ b d behind made. steps-keep c.args.steps.now b d behind made
