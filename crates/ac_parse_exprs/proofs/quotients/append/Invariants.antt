use Rattle.std.proofs.Common.{◌≡◌, ◌++◌, drop}
use Rattle.ac_parse_exprs.proofs.quotients.append.Given as goal

abbrev pub invariant-loop-quot : goal.invariant-loop-quot
invariant-loop-quot l = l.made ++ drop l.quot-index l.quots ≡ l.initial.made ++ l.quots
