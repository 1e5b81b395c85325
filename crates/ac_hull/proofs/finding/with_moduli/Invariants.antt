use Rattle.std.proofs.Common.{take}
use Rattle.ac_hull.specs.HullInternals.Finding.{AddsModuli}
use Rattle.ac_hull.proofs.finding.with_moduli.Given as goal

abbrev pub invariant-loop-modulus : goal.invariant-loop-modulus
invariant-loop-modulus l = AddsModuli l.points (take l.modulus-index l.moduli) l.first l.second l.fn.made l.made
