use Rattle.std.proofs.Common.{◌≡◌, take}
use Rattle.ac_sets.specs.SetIntersections.{common_pieces}
use Rattle.ac_sets.proofs.unions.common_to_both.Given as goal

abbrev pub invariant-loop-piece : goal.invariant-loop-piece
invariant-loop-piece l = l.pieces ≡ common_pieces l.visible (take l.piece-index l.first) l.second
