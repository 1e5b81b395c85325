use Rattle.ac_prooftext_lines.proofs.HeadArms.{no_claims}
use Rattle.ac_prooftext_lines.proofs.head.claims_item.Goals as goal

pub returns-in_default : goal.returns-in_default
returns-in_default c = no_claims c.args.words.now c.in_default.ensures
