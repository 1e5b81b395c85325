use Rattle.ac_prooftext_lines.proofs.HeadArms.{no_claim}
use Rattle.ac_prooftext_lines.proofs.head.claim_item.Goals as goal

pub returns-in_default : goal.returns-in_default
returns-in_default c = no_claim c.args.words.now c.in_default.ensures
