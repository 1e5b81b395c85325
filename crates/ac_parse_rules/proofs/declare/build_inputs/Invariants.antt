use Rattle.std.proofs.Common.{◌≡◌, ◌++◌, drop}
use Rattle.ac_syntax.specs.declared.tree.Kind.TheVariants.{Input}
use Rattle.ac_parse_rules.specs.Declarations.{arrays_from, is_whole}
use Rattle.ac_parse_rules.proofs.declare.build_inputs.Given as goal

abbrev pub invariant-loop-k : goal.invariant-loop-k
invariant-loop-k l = l.arrays ++ arrays_from l.names l.scope Input is_whole l.k (drop l.k l.params) ≡ arrays_from l.names l.scope Input is_whole 0 l.params
