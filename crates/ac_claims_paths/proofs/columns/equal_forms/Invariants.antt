use Rattle.ac_claims_paths.proofs.EqualSteps.{Equated}
use Rattle.ac_claims_paths.proofs.columns.equal_forms.Given as goal

abbrev pub invariant-loop-i : goal.invariant-loop-i
invariant-loop-i l = Equated l.fn.columns l.forms l.fn.others l.other_forms l.i l.made
