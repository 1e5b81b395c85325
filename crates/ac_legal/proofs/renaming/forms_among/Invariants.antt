use Rattle.std.proofs.Common.{◌≡◌, map, take}
use Rattle.ac_forms.specs.Renaming.{renamed}
use Rattle.ac_legal.proofs.renaming.forms_among.Given as goal

abbrev pub invariant-loop-form : goal.invariant-loop-form
invariant-loop-form l = l.made ≡ map (renamed l.columns) (take l.form-index l.forms)
