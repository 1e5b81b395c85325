use Rattle.ac_prooftext_lines.proofs.Arms.{no_equal}
use Rattle.ac_prooftext_lines.proofs.choices.equal_choice.Goals as goal

pub returns-in_default : goal.returns-in_default
returns-in_default c = no_equal c.args.words.now c.in_default.ensures
