use Rattle.ac_widen_programs.proofs.Lawful.{sites_are_declared}
use Rattle.ac_widen_programs.proofs.setting_laws.sites_are_declared.Goals as goal

pub returns : goal.returns
returns c = sites_are_declared
