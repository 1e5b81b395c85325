use Rattle.std.proofs.Common.{◌≡◌, take}
use Rattle.ac_syntax.proofs.copy.copy_index_exprs.Given as goal

abbrev pub invariant-loop-form : goal.invariant-loop-form
invariant-loop-form l = l.copies ≡ take l.form-index l.forms
