use Rattle.std.proofs.Common.{◌≡◌, ◌++◌, drop}
use Rattle.std.specs.Prelude.{filter}
use Rattle.ac_parse_rules.specs.DeclaredNumbers.{array_numbers}
use Rattle.ac_parse.specs.ProgramPairs.{outputs_of, is_output}
use Rattle.ac_parse.proofs.outputs.outputs.Given as goal

abbrev pub invariant-loop-slot : goal.invariant-loop-slot
invariant-loop-slot l = l.outputs ++ filter (is_output l.left l.right) (array_numbers (drop l.slot-index l.left.slots)) ≡ outputs_of l.left l.right
