use Rattle.ac_widen_programs.proofs.Lawful.{matches_agree}
use Rattle.ac_widen_programs.proofs.setting_laws.matches_agree.Goals as goal

pub returns : goal.returns
returns c = matches_agree
