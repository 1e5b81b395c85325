use Rattle.ac_cert.proofs.StepRules.{residue-made, class-some}
use Rattle.ac_cert.proofs.steps.residue.Goals as goal

pub returns-clause-made : goal.returns-clause-made
returns-clause-made c = residue-made _ c.args.e.now _ c.args.conj.now c.residue_by.result c.residue_by.ensures c.requires.made

pub returns-clause-keeps : goal.returns-clause-keeps
returns-clause-keeps c = class-some c.args.m c.args.e.now c.args.conj.now
