use Rattle.std.proofs.Common.{take}
use Rattle.ac_hull.specs.HullInternals.Finding.{AddsBounds}
use Rattle.ac_hull.proofs.finding.with_bounds.Given as goal

abbrev pub invariant-loop-threshold : goal.invariant-loop-threshold
invariant-loop-threshold l = AddsBounds l.points (take l.threshold-index l.thresholds) l.first l.second l.fn.made l.made
