use Rattle.ac_widen_programs.proofs.Reaching.{pair_paths_lead}
use Rattle.ac_widen_programs.proofs.pair_path_laws.pair_paths_lead.Goals as goal

pub returns : goal.returns
returns c = pair_paths_lead
