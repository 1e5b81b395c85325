use Rattle.ac_forms.proofs.Passes.{PassHalfway}
use Rattle.ac_forms.proofs.join.left_of_rows.Given as goal

abbrev pub invariant-loop-row : goal.invariant-loop-row
invariant-loop-row l = PassHalfway l.rows l.made.items l.is_absurd l.row-index
