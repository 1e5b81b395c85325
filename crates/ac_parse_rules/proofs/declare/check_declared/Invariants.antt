use Rattle.std.proofs.Common.{◌≡◌, ◌+◌, drop}
use Rattle.ac_parse_exprs.specs.Comparisons.{first_from, first_of}
use Rattle.ac_parse_rules.specs.Declarations.{each_declared_broken}
use Rattle.ac_parse_rules.proofs.declare.check_declared.Given as goal

abbrev pub invariant-loop-i : goal.invariant-loop-i
invariant-loop-i l = first_from l.broken (each_declared_broken l.names l.scope (l.first + l.i) (drop l.i l.declared)) ≡ first_of (each_declared_broken l.names l.scope l.first l.declared)
