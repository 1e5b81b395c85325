use Rattle.ac_assoc_law.proofs.Running.{runs_law}
use Rattle.ac_assoc_law.proofs.laws.arranged_runs_are_chain_runs.Goals as goal

pub returns : goal.returns
returns c = λ names t choice body params contents at h a. runs_law names t choice body params contents at h a
