use Rattle.ac_cert.proofs.Apart.{step-is_onto}
use Rattle.ac_cert.proofs.StepRules.{step-keeps}
use Rattle.ac_cert.proofs.branch_laws.one_step.Goals as goal

pub returns-clause-onto : goal.returns-clause-onto
returns-clause-onto c = λ b d e. step-is_onto c.args.step.now b d e

pub returns-clause-keeps : goal.returns-clause-keeps
returns-clause-keeps c = λ b d e w. step-keeps c.args.step.now b d e w
