use Rattle.std.proofs.Common.{◌≡◌, take}
use Rattle.ac_poly_quotients.proofs.copy.copy_pieces.Given as goal

abbrev pub invariant-loop-piece : goal.invariant-loop-piece
invariant-loop-piece l = l.made ≡ take l.piece-index l.pieces
