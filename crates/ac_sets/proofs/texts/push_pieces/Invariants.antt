use Rattle.std.proofs.Common.{◌≡◌, ◌++◌, drop, codes}
use Rattle.std.specs.List.{flat_map}
use Rattle.ac_sets.specs.SetTexts.{rows_text, pieces_text}
use Rattle.ac_sets.proofs.texts.push_pieces.Given as goal

abbrev pub invariant-loop-piece : goal.invariant-loop-piece
invariant-loop-piece l = l.bytes.items ++ flat_map (λ c. codes " or " ++ rows_text l.names c.rows) (drop l.piece-index l.rest) ≡ l.fn.bytes.items ++ pieces_text l.names l.pieces
