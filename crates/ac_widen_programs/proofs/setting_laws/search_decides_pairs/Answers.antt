use Rattle.ac_widen_programs.proofs.Lawful.{search_decides_pairs}
use Rattle.ac_widen_programs.proofs.setting_laws.search_decides_pairs.Goals as goal

pub returns : goal.returns
returns c = search_decides_pairs
