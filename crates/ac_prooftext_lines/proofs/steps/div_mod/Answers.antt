use Rattle.std.proofs.Common.{rules}
use Rattle.ac_prooftext_lines.proofs.StepArms.{no_divmod}
use Rattle.ac_prooftext_lines.proofs.steps.div_mod.Goals as goal

pub returns-in_default : goal.returns-in_default
returns-in_default c = no_divmod c.args.words.now (search rules)
