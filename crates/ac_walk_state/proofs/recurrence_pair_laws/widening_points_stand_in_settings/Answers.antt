use Rattle.ac_widen_programs.specs.PairSetting.{setting}
use Rattle.ac_walk_state.proofs.Standing.{key_in}
use Rattle.ac_walk_state.proofs.recurrence_pair_laws.widening_points_stand_in_settings.Goals as goal

pub returns : goal.returns
returns c = λ pair outputs recurrent template. key_in (setting pair outputs recurrent template)
