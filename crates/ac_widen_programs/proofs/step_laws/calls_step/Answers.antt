use Rattle.ac_widen_programs.proofs.Stepping.{calls_step}
use Rattle.ac_widen_programs.proofs.step_laws.calls_step.Goals as goal

pub returns : goal.returns
returns c = calls_step
