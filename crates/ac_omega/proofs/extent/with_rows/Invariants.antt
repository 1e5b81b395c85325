use Rattle.std.proofs.Common.{◌≡◌, drop}
use Rattle.ac_omega.specs.Maxima.{with_rows}
use Rattle.ac_omega.proofs.extent.with_rows.Given as goal

abbrev pub invariant-loop-row : goal.invariant-loop-row
invariant-loop-row l = with_rows l.rows l.fn.met ≡ with_rows (drop l.row-index l.rows) l.all
