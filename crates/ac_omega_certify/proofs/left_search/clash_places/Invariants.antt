use Rattle.ac_omega_certify.proofs.LeftSearches.{PairPassed}
use Rattle.ac_omega_certify.proofs.left_search.clash_places.Given as goal

abbrev pub invariant-loop-left : goal.invariant-loop-left
invariant-loop-left l = PairPassed l.lefts l.left-index
