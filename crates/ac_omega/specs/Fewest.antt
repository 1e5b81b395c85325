-- A column among those of which one with the fewest splinters is taken.
use Rattle.std.specs.Prelude.{ℕ, List, length}
use Rattle.ac_forms.specs.declared.row.Row.{Row}
use Rattle.ac_omega_steps.specs.Bounds.{lows, highs}
use Rattle.ac_omega.specs.ColumnChoice.{excess, splinter_key}
use Rattle.ac_omega.specs.declared.fewest.Candidate.{Candidate}

-- the column with the numbers by which it is compared
abbrev pub candidate_of : List Row → ℕ → Candidate
candidate_of rows z = record { column = z; splinters = splinter_key rows z; excess = excess (length (lows z rows)) (length (highs z rows)) }
