use Rattle.std.proofs.Common.{◌≡◌, take, map}
use Rattle.ac_parse_exprs.specs.Comparisons.{index}
use Rattle.ac_parse_exprs.proofs.comparison.build_indices.Given as goal

abbrev pub invariant-loop-e : goal.invariant-loop-e
invariant-loop-e l = l.built ≡ map (index l.names l.scope) (take l.e-index l.es)
