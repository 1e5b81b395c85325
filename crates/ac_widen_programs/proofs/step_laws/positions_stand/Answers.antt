use Rattle.ac_widen_programs.proofs.Placing.{seen_there}
use Rattle.ac_widen_programs.proofs.step_laws.positions_stand.Goals as goal

pub returns : goal.returns
returns c = seen_there
