use Rattle.std.proofs.Common.{◌≡◌, map, take}
use Rattle.ac_forms.specs.Renaming.{renamed_row}
use Rattle.ac_legal.proofs.renaming.pieces_among.Given as goal

abbrev pub invariant-loop-piece : goal.invariant-loop-piece
invariant-loop-piece l = l.made ≡ map (map (renamed_row l.columns)) (take l.piece-index l.pieces)
