use Rattle.ac_forms.proofs.Renamings.{RenamedFrom}
use Rattle.ac_forms.proofs.rename.sums.Given as goal

abbrev pub invariant-loop-i : goal.invariant-loop-i
invariant-loop-i l = RenamedFrom l.columns l.coefs l.made.items l.i
