use Rattle.std.proofs.Common.{◌≡◌, map, take}
use Rattle.ac_hull.specs.ColumnDifferences.{row_of}
use Rattle.ac_hull.proofs.claim.rows_of.Given as goal

abbrev pub invariant-loop-row : goal.invariant-loop-row
invariant-loop-row l = l.rows ≡ map (row_of l.columns) (take l.row-index l.differences)
