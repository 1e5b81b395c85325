use Rattle.ac_forms.proofs.Clashes.{ClashHalfway}
use Rattle.ac_forms.proofs.join.clashes.Given as goal

abbrev pub invariant-loop-i : goal.invariant-loop-i
invariant-loop-i l = ClashHalfway l.rows l.i
