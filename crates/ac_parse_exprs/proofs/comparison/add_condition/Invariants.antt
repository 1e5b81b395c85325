use Rattle.std.proofs.Common.{◌≡◌, ◌++◌, take}
use Rattle.ac_parse_exprs.specs.Comparisons.{condition}
use Rattle.ac_parse_exprs.proofs.comparison.add_condition.Given as goal

abbrev pub invariant-loop-part : goal.invariant-loop-part
invariant-loop-part l = l.built ≡ l.fn.all ++ condition l.names l.scope (take l.part-index l.parts)
