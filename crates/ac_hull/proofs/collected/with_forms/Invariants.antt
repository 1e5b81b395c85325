use Rattle.std.proofs.Common.{◌≡◌, ◌++◌, take}
use Rattle.ac_hull.specs.ProgramConstants.{numbers_of_forms}
use Rattle.ac_hull.proofs.collected.with_forms.Given as goal

abbrev pub invariant-loop-form : goal.invariant-loop-form
invariant-loop-form l = l.made ≡ l.fn.made ++ numbers_of_forms (take l.form-index l.forms)
