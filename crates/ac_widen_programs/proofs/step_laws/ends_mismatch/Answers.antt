use Rattle.ac_widen_programs.proofs.Mismatching.{mismatch_there}
use Rattle.ac_widen_programs.proofs.step_laws.ends_mismatch.Goals as goal

pub returns : goal.returns
returns c = mismatch_there
