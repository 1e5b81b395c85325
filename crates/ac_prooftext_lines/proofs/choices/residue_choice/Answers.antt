use Rattle.ac_prooftext_lines.proofs.Arms.{no_residue}
use Rattle.ac_prooftext_lines.proofs.choices.residue_choice.Goals as goal

pub returns-in_default : goal.returns-in_default
returns-in_default c = no_residue c.args.words.now c.in_default.ensures
