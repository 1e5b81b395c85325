use Rattle.std.proofs.Common.{◌≡◌, drop}
use Rattle.std.specs.List.{filter}
use Rattle.ac_omega.specs.ColumnChoice.{by_rule, least_from, precedes, key, passes}
use Rattle.ac_omega.proofs.ranking.by_rule.Given as goal

abbrev pub invariant-loop-z : goal.invariant-loop-z
invariant-loop-z l = by_rule l.rule l.vars l.rows ≡ least_from (precedes (key l.rule l.rows)) l.best (filter (passes l.rule l.rows) (drop l.z-index l.vars))
