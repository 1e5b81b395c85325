use Rattle.ac_cert.proofs.StepRules.{apply-keeps}
use Rattle.ac_cert.proofs.steps.apply_onto.Goals as goal

pub returns-clause-keeps : goal.returns-clause-keeps
returns-clause-keeps c = apply-keeps c.args.s.now c.args.conj c.made_by.result c.made_by.ensures c.requires
