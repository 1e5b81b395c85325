use Rattle.ac_poly_quotients.proofs.Failing.{FlatMade}
use Rattle.ac_poly_quotients.proofs.fails.all_failing.Given as goal

abbrev pub invariant-loop-piece : goal.invariant-loop-piece
invariant-loop-piece l = FlatMade l.ways l.pieces l.piece-index l.made
