use Rattle.std.proofs.Common.{◌≡◌, ◌++◌, take, map}
use Rattle.ac_poly_quotients.proofs.copy.with_rows.Given as goal

abbrev pub invariant-loop-piece : goal.invariant-loop-piece
invariant-loop-piece l = l.made ≡ map (λ q. q ++ l.rows) (take l.piece-index l.pieces)
