use Rattle.std.proofs.Common.{◌≡◌, take}
use Rattle.ac_claims_paths.proofs.places.copy_forms.Given as goal

abbrev pub invariant-loop-form : goal.invariant-loop-form
invariant-loop-form l = l.made ≡ take l.form-index l.forms
