use Rattle.std.proofs.Common.{refl}
use Rattle.ac_top.specs.ProgramAnswers.{nothing}
use Rattle.ac_top.proofs.program.put_write_fault.Goals as goal

pub returns-in-Err : goal.returns-in-Err
returns-in-Err g c = nothing refl
