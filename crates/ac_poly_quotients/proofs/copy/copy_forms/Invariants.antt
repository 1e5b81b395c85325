use Rattle.std.proofs.Common.{◌≡◌, take}
use Rattle.ac_poly_quotients.proofs.copy.copy_forms.Given as goal

abbrev pub invariant-loop-form : goal.invariant-loop-form
invariant-loop-form l = l.made ≡ take l.form-index l.forms
