use Rattle.ac_claims_paths.proofs.PlaceSteps.{Elements}
use Rattle.ac_claims_paths.proofs.places.element_forms.Given as goal

abbrev pub invariant-loop-k : goal.invariant-loop-k
invariant-loop-k l = Elements l.fn.params l.k l.forms
