use Rattle.ac_poly.proofs.Failing.{Counted}
use Rattle.ac_poly.proofs.ways.count_ways.Given as goal

abbrev pub invariant-loop-part : goal.invariant-loop-part
invariant-loop-part l = Counted l.parts l.part-index l.count
