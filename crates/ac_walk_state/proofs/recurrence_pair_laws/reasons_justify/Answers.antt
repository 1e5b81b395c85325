use Rattle.ac_widen_programs.specs.PairSetting.{setting}
use Rattle.ac_walk_state.proofs.Standing.{reason_justified}
use Rattle.ac_walk_state.proofs.recurrence_pair_laws.reasons_justify.Goals as goal

pub returns : goal.returns
returns c = λ pair outputs recurrent template order. reason_justified (setting pair outputs recurrent template) order
