use Rattle.std.proofs.Common.{◌≡◌, ◌++◌, drop}
use Rattle.ac_parse_exprs.specs.Comparisons.{counted}
use Rattle.ac_parse_exprs.proofs.quotients.counted.Given as goal

abbrev pub invariant-loop-quot : goal.invariant-loop-quot
invariant-loop-quot l = l.made ++ counted (drop l.quot-index l.quots) ≡ counted l.quots
