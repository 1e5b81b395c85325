use Rattle.ac_claims_valid.proofs.TextLaw.{texts_are_judged_by_the_rules}
use Rattle.ac_claims_valid.proofs.laws.rules_of_proof_texts.Goals as goal

pub returns : goal.returns
returns c = texts_are_judged_by_the_rules c.written_proofs_are_judged.ensures
