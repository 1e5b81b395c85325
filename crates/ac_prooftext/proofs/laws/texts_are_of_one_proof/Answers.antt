use Rattle.ac_prooftext.proofs.Verdicts.{one_text}
use Rattle.ac_prooftext.proofs.laws.texts_are_of_one_proof.Goals as goal

pub returns : goal.returns
returns c = one_text
