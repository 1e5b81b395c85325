use Rattle.ac_cert.proofs.StepRules.{class-made, class-some}
use Rattle.ac_cert.proofs.branch_laws.classes_of_a_residue.Goals as goal

pub returns-clause-made : goal.returns-clause-made
returns-clause-made c = λ m r d e w. class-made m c.args.form.now r d e w

pub returns-clause-keeps : goal.returns-clause-keeps
returns-clause-keeps c = λ m d a p at. class-some m c.args.form.now d a p at
