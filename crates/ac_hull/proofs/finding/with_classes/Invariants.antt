use Rattle.ac_hull.specs.HullInternals.Finding.{AddsClasses}
use Rattle.ac_hull.proofs.finding.with_classes.Given as goal

abbrev pub invariant-loop-class : goal.invariant-loop-class
invariant-loop-class l = AddsClasses l.points l.modulus l.class l.first l.second l.fn.made l.made
