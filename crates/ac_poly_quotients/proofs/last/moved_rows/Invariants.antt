use Rattle.std.proofs.Common.{◌≡◌, map, take}
use Rattle.ac_forms.specs.Renaming.{renamed_row}
use Rattle.ac_poly_quotients.proofs.last.moved_rows.Given as goal

abbrev pub invariant-loop-row : goal.invariant-loop-row
invariant-loop-row l = l.made ≡ map (renamed_row l.ks) (take l.row-index l.rows)
