use Rattle.ac_prooftext.proofs.Verdicts.{written}
use Rattle.ac_prooftext.proofs.laws.written_proofs_are_judged.Goals as goal

pub returns : goal.returns
returns c = written
