-- The exit codes of the program.
use Rattle.std.specs.Prelude.{ℕ}
use Rattle.ac_top.specs.declared.status.Status.{Status}
use Rattle.ac_top.specs.declared.status.Status.TheVariants.{Done, Different, Unknown, Usage, Refused, ReadFault, WriteFault, Memory, Halted, Stopped}

abbrev pub code_of : Status → ℕ
code_of Done = 0
code_of Different = 10
code_of Unknown = 20
code_of Usage = 2
code_of Refused = 3
code_of ReadFault = 4
code_of WriteFault = 5
code_of Memory = 6
code_of Halted = 7
code_of Stopped = 8
