use Rattle.std.proofs.Common.{◌≡◌, drop}
use Rattle.ac_forms.specs.FormOrder.{columns_cmp}
use Rattle.ac_forms.proofs.order.compare_columns.Given as goal

abbrev pub invariant-loop-column : goal.invariant-loop-column
invariant-loop-column l = columns_cmp l.left l.right ≡ columns_cmp (drop l.column l.left) (drop l.column l.right)
