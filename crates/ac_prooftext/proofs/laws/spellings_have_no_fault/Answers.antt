use Rattle.ac_prooftext.proofs.Excluding.{spelled_proof, no_fault}
use Rattle.ac_prooftext.proofs.laws.spellings_have_no_fault.Goals as goal

pub returns : goal.returns
returns c = record { proofs = spelled_proof; no_fault = no_fault }
