-- The positions of a model by the number of their coordinates and that of their pieces.
use Rattle.std.specs.Prelude.{ℕ, Bool, false, [], ◌∷◌, List, length, Option, Some, None, option_and_then, option_map, slice_get}
use Rattle.ac_forms.specs.declared.row.Row.{Row}
use Rattle.ac_claims_paths.specs.PathSteps.{Pairing}
use Rattle.ac_poly.specs.declared.types.Model.{Model}
use Rattle.ac_poly.specs.declared.types.StmtModel.{StmtModel}
use Rattle.ac_claims.specs.ProofFaults.{Domain, output_rows, all_stand_among}
use Rattle.ac_claims.specs.declared.types.Claim.{Claim}
use Rattle.ac_claims.specs.declared.domains.Piece.{Piece}
use Rattle.ac_claims.specs.declared.domains.Size.{Size}

abbrev pub size_of : Domain → Size
size_of a = record { width = a.width; pieces = length a.pieces }

-- the assignment with a number, where it has a node with another
abbrev pub stmt_at : Model → ℕ → ℕ → Option StmtModel
stmt_at m s k = option_and_then (λ (stmt : StmtModel). option_map (λ node. stmt) (slice_get stmt.nodes k)) (slice_get m.stmts s)

-- a piece with the number of coordinates
abbrev pub piece_by : ℕ → Option Domain → Option Piece
piece_by k o = option_and_then (λ (a : Domain). option_map (λ rows. record { width = a.width; rows = rows }) (slice_get a.pieces k)) o

-- the only piece
abbrev pub single_of : ℕ → List (List Row) → Option Piece
single_of width (rows ∷ []) = Some (record { width = width; rows = rows })
single_of width pieces = None

abbrev pub single : Option Domain → Option Piece
single o = option_and_then (λ (a : Domain). single_of a.width a.pieces) o

-- a position with so many coordinates
abbrev pub of_width : ℕ → Domain
of_width count = record { width = count; pieces = [] }

-- the claim of outputs with these pieces asks no more than it may
abbrev pub asks_of : Pairing → Claim → Option Piece → Option Piece → Bool
asks_of g c (Some l) (Some r) = all_stand_among (output_rows g c (of_width l.width) (of_width r.width) l.rows r.rows) c.rows
asks_of g c None o = false
asks_of g c (Some l) None = false
