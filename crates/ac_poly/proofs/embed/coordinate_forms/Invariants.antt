use Rattle.ac_poly.proofs.Coordinating.{Coordinated}
use Rattle.ac_poly.proofs.embed.coordinate_forms.Given as goal

abbrev pub invariant-loop-k : goal.invariant-loop-k
invariant-loop-k l = Coordinated l.fn.first l.k l.made
