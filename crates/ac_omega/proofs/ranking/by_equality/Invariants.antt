use Rattle.std.proofs.Common.{◌≡◌, drop}
use Rattle.ac_omega.specs.ColumnChoice.{by_equality}
use Rattle.ac_omega.proofs.ranking.by_equality.Given as goal

abbrev pub invariant-loop-row : goal.invariant-loop-row
invariant-loop-row l = by_equality l.vars l.rows ≡ by_equality l.vars (drop l.row-index l.rows)
