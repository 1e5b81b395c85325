use Rattle.ac_widen_programs.proofs.Lawful.{pairs_are_a_setting}
use Rattle.ac_widen_programs.proofs.setting_laws.pairs_are_a_setting.Goals as goal

pub returns : goal.returns
returns c = pairs_are_a_setting
