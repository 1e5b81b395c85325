use Rattle.std.proofs.Common.{◌≡◌, take}
use Rattle.ac_parse_rules.specs.Declarations.{param_names}
use Rattle.ac_parse_rules.proofs.declare.build_params.Given as goal

abbrev pub invariant-loop-declared : goal.invariant-loop-declared
invariant-loop-declared l = l.names ≡ param_names (take l.declared-index l.params)
