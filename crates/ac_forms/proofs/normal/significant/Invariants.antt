use Rattle.ac_forms.proofs.Trims.{TrimHalfway}
use Rattle.ac_forms.proofs.normal.significant.Given as goal

abbrev pub invariant-loop-at : goal.invariant-loop-at
invariant-loop-at l = TrimHalfway l.coefs l.kept l.at
