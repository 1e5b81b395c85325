use Rattle.std.proofs.Common.{◌≡◌, ◌++◌, map, take}
use Rattle.ac_forms.specs.Renaming.{renamed_row}
use Rattle.ac_poly_quotients.proofs.last.placed_pieces.Given as goal

abbrev pub invariant-loop-piece : goal.invariant-loop-piece
invariant-loop-piece l = l.made ≡ map (λ q. map (renamed_row l.ks) q ++ l.rows) (take l.piece-index l.pieces)
