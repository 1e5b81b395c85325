use Rattle.std.proofs.Common.{ℕ, ◌<◌}
use Rattle.ac_forms.specs.Fits.{Fits}
use Rattle.ac_hull.specs.ColumnDifferences.{gap}
use Rattle.ac_hull.proofs.claim.gaps_fit_from.Given as goal

abbrev pub invariant-loop-second : goal.invariant-loop-second
invariant-loop-second l = (t : ℕ) → t < l.second → Fits (gap l.first t l.point)
