use Rattle.std.proofs.Common.{◌≡◌, drop}
use Rattle.ac_forms.specs.RowColumns.{is_present}
use Rattle.ac_forms.proofs.present.is_present.Given as goal

abbrev pub invariant-loop-row : goal.invariant-loop-row
invariant-loop-row l = is_present l.column l.rows ≡ is_present l.column (drop l.row-index l.rows)
