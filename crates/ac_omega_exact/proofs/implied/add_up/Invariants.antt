use Rattle.std.proofs.Common.{◌≡◌, drop}
use Rattle.ac_forms.specs.Affine.{plus}
use Rattle.ac_forms.specs.FormOrder.{columns_cmp}
use Rattle.ac_omega_exact.proofs.implied.add_up.Given as goal

abbrev pub invariant-loop-column : goal.invariant-loop-column
invariant-loop-column l = columns_cmp (plus l.left l.right) l.sum ≡ columns_cmp (drop l.column (plus l.left l.right)) (drop l.column l.sum)
