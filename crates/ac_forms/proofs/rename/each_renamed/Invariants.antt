use Rattle.ac_forms.proofs.Renamings.{EachRenamed}
use Rattle.ac_forms.proofs.rename.each_renamed.Given as goal

abbrev pub invariant-loop-row : goal.invariant-loop-row
invariant-loop-row l = EachRenamed l.columns l.rows l.made l.row-index
