use Rattle.ac_widen_programs.proofs.Starting.{starts_lead}
use Rattle.ac_widen_programs.proofs.pair_path_laws.starts_lead.Goals as goal

pub returns : goal.returns
returns c = starts_lead
