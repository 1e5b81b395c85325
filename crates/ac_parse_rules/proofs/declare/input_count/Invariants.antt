use Rattle.std.proofs.Common.{◌≡◌, ◌≤◌, take}
use Rattle.ac_parse_rules.specs.Declarations.{input_count}
use Rattle.ac_parse_rules.proofs.declare.input_count.Given as goal

abbrev pub invariant-loop-declared : goal.invariant-loop-declared
invariant-loop-declared l = record { so_far : l.n ≡ input_count (take l.declared-index l.params); within : l.n ≤ l.declared-index }
