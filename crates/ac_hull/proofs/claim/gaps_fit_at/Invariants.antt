use Rattle.std.proofs.Common.{ℕ, ◌<◌, ◌+◌}
use Rattle.ac_forms.specs.Fits.{Fits}
use Rattle.ac_hull.specs.ColumnDifferences.{gap}
use Rattle.ac_hull.proofs.claim.gaps_fit_at.Given as goal

abbrev pub invariant-loop-first : goal.invariant-loop-first
invariant-loop-first l = (s t : ℕ) → s < l.first → t < l.columns + 1 → Fits (gap s t l.point)
