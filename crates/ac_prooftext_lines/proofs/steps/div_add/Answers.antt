use Rattle.ac_prooftext_lines.proofs.StepArms.{no_divadd}
use Rattle.ac_prooftext_lines.proofs.steps.div_add.Goals as goal

pub returns-in_default : goal.returns-in_default
returns-in_default c = no_divadd c.args.words.now c.in_default.ensures
