use Rattle.std.proofs.Common.{◌≡◌, drop}
use Rattle.std.specs.List.{filter}
use Rattle.ac_forms.specs.declared.row.Row.TheVariants.{Eq}
use Rattle.ac_forms.specs.RowColumns.{has_column}
use Rattle.ac_omega.specs.ColumnChoice.{least_by, least_from, precedes, size_key}
use Rattle.ac_omega.proofs.ranking.smallest.Given as goal

abbrev pub invariant-loop-z : goal.invariant-loop-z
invariant-loop-z l = least_by (precedes (size_key l.form)) (filter (λ z. has_column z (Eq l.form)) l.vars) ≡ least_from (precedes (size_key l.form)) l.best (filter (λ z. has_column z (Eq l.form)) (drop l.z-index l.vars))
