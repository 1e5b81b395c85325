use Rattle.ac_cert.proofs.StepRules.{sides-keep}
use Rattle.ac_cert.proofs.branch_laws.sides_of_a_split.Goals as goal

pub returns-clause-made : goal.returns-clause-made
returns-clause-made c = λ d a b e w. let k = sides-keep c.args.form.now d a b e w in (k.0, k.1)

pub returns-clause-keeps : goal.returns-clause-keeps
returns-clause-keeps c = λ d a b e w p at. (sides-keep c.args.form.now d a b e w).2 p at
