use Rattle.std.proofs.Common.{◌+◌, []}
use Rattle.ac_hull.specs.HullInternals.Gathering.{Gathers, OfFirsts}
use Rattle.ac_hull.proofs.claim.gathered.Given as goal

abbrev pub invariant-loop-first : goal.invariant-loop-first
invariant-loop-first l = Gathers l.points (OfFirsts l.thresholds l.moduli l.points (l.columns + 1) l.first) [] l.made
