use Rattle.ac_widen_programs.proofs.Trails.{questions_grow}
use Rattle.ac_widen_programs.proofs.pair_path_laws.questions_grow.Goals as goal

pub returns : goal.returns
returns c = questions_grow
