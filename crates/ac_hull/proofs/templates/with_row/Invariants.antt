use Rattle.std.proofs.Common.{◌≡◌, ◌++◌}
use Rattle.ac_hull.specs.Templates.{row_rows}
use Rattle.ac_hull.proofs.templates.with_row.Given as goal

abbrev pub invariant-loop-second : goal.invariant-loop-second
invariant-loop-second l = l.made ≡ l.fn.rows ++ row_rows l.columns l.thresholds l.moduli l.first l.second
