use Rattle.ac_forms.specs.declared.normal.NormalRow.TheVariants.{Kept}
use Rattle.ac_omega_certify.proofs.LeftSearches.{Passed}
use Rattle.ac_omega_certify.proofs.left_search.place_of.Given as goal

abbrev pub invariant-loop-left : goal.invariant-loop-left
invariant-loop-left l = Passed (Kept l.row) l.lefts l.left-index
