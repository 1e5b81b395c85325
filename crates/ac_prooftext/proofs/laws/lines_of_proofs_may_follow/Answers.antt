use Rattle.ac_prooftext.proofs.Following.{takes_proofs}
use Rattle.ac_prooftext.proofs.laws.lines_of_proofs_may_follow.Goals as goal

pub returns : goal.returns
returns c = takes_proofs
