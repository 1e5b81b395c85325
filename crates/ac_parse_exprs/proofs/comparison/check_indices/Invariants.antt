use Rattle.std.proofs.Common.{◌≡◌, drop, map}
use Rattle.ac_parse_exprs.specs.Comparisons.{first_from, first_of, index_broken}
use Rattle.ac_parse_exprs.proofs.comparison.check_indices.Given as goal

abbrev pub invariant-loop-e : goal.invariant-loop-e
invariant-loop-e l = first_from l.broken (map (index_broken l.names l.scope) (drop l.e-index l.es)) ≡ first_of (map (index_broken l.names l.scope) l.es)
