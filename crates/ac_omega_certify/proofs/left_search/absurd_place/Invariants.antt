use Rattle.ac_forms.specs.declared.normal.NormalRow.TheVariants.{Absurd}
use Rattle.ac_omega_certify.proofs.LeftSearches.{Passed}
use Rattle.ac_omega_certify.proofs.left_search.absurd_place.Given as goal

abbrev pub invariant-loop-left : goal.invariant-loop-left
invariant-loop-left l = Passed Absurd l.lefts l.left-index
