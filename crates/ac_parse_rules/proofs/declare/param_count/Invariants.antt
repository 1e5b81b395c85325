use Rattle.std.proofs.Common.{◌≡◌, ◌≤◌, take}
use Rattle.ac_parse_rules.specs.Declarations.{param_count}
use Rattle.ac_parse_rules.proofs.declare.param_count.Given as goal

abbrev pub invariant-loop-declared : goal.invariant-loop-declared
invariant-loop-declared l = record { so_far : l.n ≡ param_count (take l.declared-index l.params); within : l.n ≤ l.declared-index }
