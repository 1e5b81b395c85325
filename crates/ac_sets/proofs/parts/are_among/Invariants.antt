use Rattle.std.proofs.Common.{◌≡◌, take, true}
use Rattle.std.specs.List.{list_all}
use Rattle.ac_forms.specs.Renaming.{renamed_row}
use Rattle.ac_forms.specs.Standing.{is_among}
use Rattle.ac_sets.proofs.parts.are_among.Given as goal

abbrev pub invariant-loop-row : goal.invariant-loop-row
invariant-loop-row l = list_all (λ r. is_among (renamed_row l.columns r) l.others) (take l.row-index l.rows) ≡ true
