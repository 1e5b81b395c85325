use Rattle.ac_omega_steps.proofs.Keeping.{combination-value, combination-within}
use Rattle.ac_cert.proofs.branch_laws.combination_of_forms.Goals as goal

pub returns-clause-value : goal.returns-clause-value
returns-clause-value c = λ k l h p e. combination-value k c.args.form.now l c.args.other.now h p e

pub returns-clause-within : goal.returns-clause-within
returns-clause-within c = λ k l h n e v w. combination-within k c.args.form.now l c.args.other.now h n e v w
