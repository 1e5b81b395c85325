use Rattle.std.proofs.Common.{◌≡◌, take}
use Rattle.ac_poly_quotients.proofs.copy.copy_columns.Given as goal

abbrev pub invariant-loop-column : goal.invariant-loop-column
invariant-loop-column l = l.made ≡ take l.column-index l.columns
