use Rattle.ac_prooftext_lines.proofs.StepArms.{no_eqcut}
use Rattle.ac_prooftext_lines.proofs.steps.eq_cut.Goals as goal

pub returns-in_default : goal.returns-in_default
returns-in_default c = no_eqcut c.args.words.now c.in_default.ensures
