use Rattle.ac_cert.proofs.StepRules.{split-made, split-keeps}
use Rattle.ac_cert.proofs.steps.split.Goals as goal

pub returns-clause-made : goal.returns-clause-made
returns-clause-made c = split-made c.args.e.now c.args.conj.now c.split_by.result c.split_by.ensures c.requires

pub returns-clause-keeps : goal.returns-clause-keeps
returns-clause-keeps c = split-keeps c.args.e.now c.args.conj.now c.split_by.result c.split_by.ensures c.requires
