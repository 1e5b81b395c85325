use Rattle.std.proofs.Common.{◌≡◌}
use Rattle.ac_parse_exprs.specs.AffineForms.{unit}
use Rattle.ac_parse_exprs.proofs.form.unit.Given as goal

abbrev pub invariant-loop-j : goal.invariant-loop-j
invariant-loop-j l = l.numbers ≡ unit l.j l.k
