use Rattle.std.proofs.Common.{◌≡◌, ◌++◌, map, take}
use Rattle.ac_forms.specs.declared.row.Row.TheVariants.{Eq}
use Rattle.ac_walk_state.proofs.claiming.joined_rows.Given as goal

abbrev pub invariant-loop-row : goal.invariant-loop-row
invariant-loop-row l = l.rows ≡ map Eq l.fn.equalities ++ take l.row-index l.more
