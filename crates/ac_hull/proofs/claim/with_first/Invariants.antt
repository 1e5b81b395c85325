use Rattle.ac_hull.specs.HullInternals.Gathering.{Gathers, OfFirst}
use Rattle.ac_hull.proofs.claim.with_first.Given as goal

abbrev pub invariant-loop-second : goal.invariant-loop-second
invariant-loop-second l = Gathers l.points (OfFirst l.thresholds l.moduli l.points l.first l.second) l.fn.made l.made
