use Rattle.ac_prooftext_lines.proofs.StepArms.{no_cut}
use Rattle.ac_prooftext_lines.proofs.steps.cut_step.Goals as goal

pub returns-in_default : goal.returns-in_default
returns-in_default c = no_cut c.args.words.now c.in_default.ensures
