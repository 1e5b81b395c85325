use Rattle.std.proofs.Common.{◌≡◌, ◌++◌, take, map}
use Rattle.ac_forms.specs.Renaming.{renamed_row}
use Rattle.ac_sets.proofs.moves.push_moved.Given as goal

abbrev pub invariant-loop-row : goal.invariant-loop-row
invariant-loop-row l = l.rows ≡ l.fn.rows ++ map (renamed_row l.columns) (take l.row-index l.further)
