use Rattle.ac_prooftext_lines.proofs.StepArms.{no_diveq}
use Rattle.ac_prooftext_lines.proofs.steps.div_eq.Goals as goal

pub returns-in_default : goal.returns-in_default
returns-in_default c = no_diveq c.args.words.now c.in_default.ensures
