use Rattle.ac_parse.proofs.Executed.{executions_have_arities}
use Rattle.ac_parse.proofs.arity_laws.executions_have_arities.Goals as goal

pub returns : goal.returns
returns c = λ body h. executions_have_arities body h
