use Rattle.std.proofs.Common.{rules}
use Rattle.ac_prooftext_lines.proofs.StepArms.{no_floor}
use Rattle.ac_prooftext_lines.proofs.steps.floor_step.Goals as goal

pub returns-in_default : goal.returns-in_default
returns-in_default c = no_floor c.args.words.now (search rules)
