use Rattle.ac_widen_programs.proofs.Stepping.{left_reads_step, right_reads_step}
use Rattle.ac_widen_programs.proofs.step_laws.reads_step.Goals as goal

pub returns-clause-left : goal.returns-clause-left
returns-clause-left c = left_reads_step

pub returns-clause-right : goal.returns-clause-right
returns-clause-right c = right_reads_step
