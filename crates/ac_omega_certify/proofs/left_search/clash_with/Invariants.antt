use Rattle.ac_omega_certify.proofs.LeftSearches.{ClashPassed}
use Rattle.ac_omega_certify.proofs.left_search.clash_with.Given as goal

abbrev pub invariant-loop-left : goal.invariant-loop-left
invariant-loop-left l = ClashPassed l.form l.lefts l.left-index
