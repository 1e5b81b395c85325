-- What writes the cell of a read or an output before it: its assignment, a piece and a level, and its rows.
use Rattle.std.specs.Prelude.{ℕ, suc, ◌+◌, ◌++◌, List, [], ◌∷◌, map, length, Option, Some, None, option_and_then, option_map, cond, nat_eq, slice_get}
use Rattle.std.specs.List.{flat_map, range_with_len}
use Rattle.ac_forms.specs.declared.conj.Conj.{Conj}
use Rattle.ac_forms.specs.declared.row.Row.{Row}
use Rattle.ac_syntax.specs.Outputs.{swaps_of}
use Rattle.ac_syntax.specs.declared.tree.Position.{Position}
use Rattle.ac_poly.specs.declared.types.Model.{Model}
use Rattle.ac_poly.specs.declared.types.StmtModel.{StmtModel}
use Rattle.ac_claims_paths.specs.InstanceCoordinates.{width, levels_before}
use Rattle.ac_claims_paths.specs.PathSteps.{Pairing}
use Rattle.ac_claims_paths.specs.CopyKills.{assignment_at, copy_rows, case_width}
use Rattle.ac_claims_paths.specs.ModelPositions.{levels_to}
use Rattle.ac_claims_paths.specs.declared.path.Assumed.{Assumed}
use Rattle.ac_claims_paths.specs.declared.path.Seat.{Seat}
use Rattle.ac_claims_paths.specs.declared.path.Side.TheVariants.{Left}
use Rattle.ac_claims_paths.specs.declared.path.CopyNumbers.{CopyNumbers}

-- one program against itself
abbrev pub alone : Model → Pairing
alone m = record { params = m.params; left = m; right = m; swaps = swaps_of [] }

-- a reader with so many coordinates, behind the parameters, and what is assumed for it: a source behind it, or none
abbrev pub reading : Model → Position → ℕ → Option Seat → Assumed
reading m reader width source = record { side = Left; reader = record { position = reader; first = m.params; width = width }; source = source }

-- the levels by which an instance of the assignment u stands after one of the assumed source's
abbrev pub levels_after_of : Model → Option StmtModel → ℕ → ℕ → StmtModel → List (List Row)
levels_after_of m None s u stmt = []
levels_after_of m (Some source) s u stmt = levels_before m.params s source u stmt

abbrev pub levels_after : Model → Seat → ℕ → StmtModel → List (List Row)
levels_after m source u stmt = levels_after_of m (slice_get m.stmts (assignment_at source)) (assignment_at source) u stmt

-- the number of each of so many
abbrev pub numbers_to : ℕ → List ℕ
numbers_to count = range_with_len 0 count

-- the levels after an assumed source; without one, none is asked
abbrev pub afters : Model → Option Seat → ℕ → StmtModel → List (Option ℕ)
afters m None u stmt = None ∷ []
afters m (Some source) u stmt = map Some (numbers_to (length (levels_after m source u stmt)))

abbrev pub writing : ℕ → ℕ → ℕ → Option ℕ → CopyNumbers
writing u piece before after = record { stmt = u; piece = piece; before = before; after = after }

-- those of the assignment u: for each piece, for each level before the reader, those after the source
abbrev pub writings_of : Model → Position → Option Seat → ℕ → StmtModel → List CopyNumbers
writings_of m reader source u stmt =
    flat_map (λ piece. flat_map (λ before. map (writing u piece before) (afters m source u stmt)) (numbers_to (length (levels_to m u stmt reader)))) (numbers_to (length stmt.pieces))

-- the same, if it writes the array
abbrev pub writings_at : Model → Position → ℕ → Option Seat → ℕ → StmtModel → List CopyNumbers
writings_at m reader array source u stmt = cond (nat_eq stmt.array array) (writings_of m reader source u stmt) []

abbrev pub writings_from : Model → Position → ℕ → Option Seat → ℕ → List StmtModel → List CopyNumbers
writings_from m reader array source u [] = []
writings_from m reader array source u (stmt ∷ rest) = writings_at m reader array source u stmt ++ writings_from m reader array source (suc u) rest

-- those of all assignments of an array
abbrev pub writings : Model → Position → ℕ → Option Seat → List CopyNumbers
writings m reader array source = writings_from m reader array source 0 m.stmts

-- the rows of a writing: a piece, the equalities of the cell, and its levels. Its coordinates stand behind so many columns
abbrev pub rows_of : Model → Assumed → ℕ → CopyNumbers → StmtModel → Option (List Row)
rows_of m a n w stmt = copy_rows (alone m) a n w.stmt w.piece w.after w.before stmt

abbrev pub over : ℕ → List Row → Conj
over columns rows = record { columns = columns; rows = rows }

-- the same as a conjunction over these columns and its coordinates
abbrev pub conj_of : Model → Assumed → CopyNumbers → Option Conj
conj_of m a w =
    option_and_then (λ (stmt : StmtModel). option_map (over (case_width m.params a + width stmt)) (rows_of m a (case_width m.params a) w stmt)) (slice_get m.stmts w.stmt)

-- the copies of a case: what writes the cell behind what is assumed for it
abbrev pub copies : Model → Assumed → ℕ → List (Option Conj)
copies m a array = map (conj_of m a) (writings m a.reader.position array a.source)
