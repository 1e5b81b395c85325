use Rattle.std.proofs.Common.{◌≡◌, map, take}
use Rattle.ac_forms.specs.declared.row.Row.TheVariants.{Eq}
use Rattle.ac_walk_state.proofs.claiming.equality_rows.Given as goal

abbrev pub invariant-loop-form : goal.invariant-loop-form
invariant-loop-form l = l.rows ≡ map Eq (take l.form-index l.equalities)
