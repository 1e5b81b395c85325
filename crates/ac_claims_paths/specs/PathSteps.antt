-- The steps of a pair of positions, as the paths that a plan goes on with.
use Rattle.std.specs.Prelude.{ℕ, suc, ◌+◌, ◌&&◌, Bool, true, List, [], ◌∷◌, ◌++◌, map, Option, Some, None, option_map, cond, nat_eq}
use Rattle.std.specs.List.{flat_map}
use Rattle.std.specs.Cmp.Lexicographic.{pointwise}
use Rattle.ac_forms.specs.declared.conj.Conj.{Conj}
use Rattle.ac_forms.specs.declared.row.Row.{Row}
use Rattle.ac_syntax.specs.declared.tree.Order.{Order}
use Rattle.ac_syntax.specs.declared.tree.Order.TheVariants.{Keep, Swap}
use Rattle.ac_syntax.specs.declared.tree.Position.{Position}
use Rattle.ac_syntax.specs.declared.tree.Position.TheVariants.{Node}
use Rattle.ac_syntax.specs.declared.tree.Symbol.{Symbol}
use Rattle.ac_poly.specs.declared.types.Model.{Model}
use Rattle.ac_poly.specs.declared.types.StmtModel.{StmtModel}
use Rattle.ac_forms.specs.Renaming.{rows_renaming}
use Rattle.ac_claims_paths.specs.PathColumns.{base, columns_of, equal_forms, appended, all_of}
use Rattle.ac_claims_paths.specs.InstanceCoordinates.{width}
use Rattle.ac_claims_paths.specs.ModelPositions.{CellForms, CallAt, cell_read, call_at, initial_of, levels_to}
use Rattle.ac_claims_paths.specs.declared.path.Assumed.{Assumed}
use Rattle.ac_claims_paths.specs.declared.path.Path.{Path}
use Rattle.ac_claims_paths.specs.declared.path.Seat.{Seat}
use Rattle.ac_claims_paths.specs.declared.path.Side.{Side}
use Rattle.ac_claims_paths.specs.declared.path.Side.TheVariants.{Left, Right}

-- what a plan is checked against: the number of parameters, the models of both programs, and the symbols that may be swapped
pub record Pairing : Type 0 where
  pub params : ℕ
  pub left : Model
  pub right : Model
  pub swaps : Symbol → Bool

abbrev pub model_of : Pairing → Side → Model
model_of g Left = g.left
model_of g Right = g.right

abbrev pub seat_of : Path → Side → Seat
seat_of h Left = h.left
seat_of h Right = h.right

-- the path at further rows
abbrev pub at_rows : Path → Conj → Path
at_rows h c = record h { conj = c }

-- the path behind a step of one position, to a seat
abbrev pub gone_to : Path → Side → Conj → Seat → Option Assumed → Path
gone_to h Left c seat last = record { conj = c; left = seat; right = h.right; gone = true; last = last }
gone_to h Right c seat last = record { conj = c; left = h.left; right = seat; gone = true; last = last }

-- the root of an assignment, with its coordinates in the columns from `first` on
abbrev pub root : ℕ → ℕ → StmtModel → Seat
root first u stmt = record { position = Node u 0; first = first; width = width stmt }

-- the rows of a case: the source lies in a piece of its assignment, writes the cell, and stands before the reader by a level
abbrev pub case_rows : ℕ → Seat → CellForms → Seat → StmtModel → List Row → List Row → Option (List Row)
case_rows params reader cell source stmt piece level =
    appended (rows_renaming (base params ++ columns_of source) piece)
    (appended (equal_forms (base params ++ columns_of reader) cell.subs (base params ++ columns_of source) stmt.subs)
    (rows_renaming (base params ++ (columns_of source ++ columns_of reader)) level))

-- further columns and rows
abbrev pub extended : Conj → ℕ → List Row → Conj
extended c more rows = record { columns = c.columns + more; rows = c.rows ++ rows }

-- the path behind a case
abbrev pub case_path : ℕ → Path → Side → CellForms → ℕ → StmtModel → List Row → List Row → Option Path
case_path params h side cell u stmt piece level =
    let source = root h.conj.columns u stmt in
    let reader = seat_of h side in
    option_map (λ rows. gone_to h side (extended h.conj (width stmt) rows) source (Some (record { side = side; reader = reader; source = Some source }))) (case_rows params reader cell source stmt piece level)

-- the cases of one assignment: one for each piece and level
abbrev pub cases_of : ℕ → Model → Path → Side → CellForms → ℕ → StmtModel → List (Option Path)
cases_of params m h side cell u stmt =
    flat_map (λ piece. map (case_path params h side cell u stmt piece) (levels_to m u stmt (seat_of h side).position)) stmt.pieces

-- the same, if it writes the array
abbrev pub cases_at : ℕ → Model → Path → Side → CellForms → ℕ → StmtModel → List (Option Path)
cases_at params m h side cell u stmt = cond (nat_eq stmt.array cell.array) (cases_of params m h side cell u stmt) []

-- those of all assignments of the array, from the assignment u on
abbrev pub cases_from : ℕ → Model → Path → Side → CellForms → ℕ → List StmtModel → List (Option Path)
cases_from params m h side cell u [] = []
cases_from params m h side cell u (stmt ∷ rest) = cases_at params m h side cell u stmt ++ cases_from params m h side cell (suc u) rest

-- where no entry writes the cell before: the position stands for its initial contents
abbrev pub initial_path : Path → Side → Path
initial_path h side =
    let reader = seat_of h side in
    gone_to h side h.conj (record { position = initial_of reader.position; first = reader.first; width = reader.width }) (Some (record { side = side; reader = reader; source = None }))

-- the cases of a read or an output: one for each source, then the initial contents
abbrev pub read_branches : ℕ → Model → Path → Side → CellForms → Option (List Path)
read_branches params m h side cell = all_of (cases_from params m h side cell 0 m.stmts ++ Some (initial_path h side) ∷ [])

abbrev pub at_position : Seat → Position → Seat
at_position seat p = record { position = p; first = seat.first; width = seat.width }

abbrev pub argument_path : Path → Position → Position → Path
argument_path h p q = record { conj = h.conj; left = at_position h.left p; right = at_position h.right q; gone = true; last = None }

-- argument k meets argument k
abbrev pub kept : Path → List Position → List Position → Option (List Path)
kept h [] [] = Some []
kept h [] (q ∷ qs) = None
kept h (p ∷ ps) [] = None
kept h (p ∷ ps) (q ∷ qs) = option_map (λ rest. argument_path h p q ∷ rest) (kept h ps qs)

-- the first argument meets the second one, and the second one the first
abbrev pub swapped : Path → List Position → List Position → Option (List Path)
swapped h (p ∷ p' ∷ []) (q ∷ q' ∷ []) = Some (argument_path h p q' ∷ argument_path h p' q ∷ [])
swapped h ps qs = None

abbrev pub same_symbol : Symbol → Symbol → Bool
same_symbol f g = nat_eq f.arity g.arity && pointwise nat_eq f.name g.name

abbrev pub call_branches : Pairing → Order → Path → CallAt → CallAt → Option (List Path)
call_branches g Keep h a b = cond (same_symbol a.symbol b.symbol) (kept h a.args b.args) None
call_branches g Swap h a b = cond (same_symbol a.symbol b.symbol && g.swaps a.symbol) (swapped h a.args b.args) None

abbrev pub branches_of_calls : Pairing → Order → Path → Option CallAt → Option CallAt → Option (List Path)
branches_of_calls g order h (Some a) (Some b) = call_branches g order h a b
branches_of_calls g order h None b = None
branches_of_calls g order h (Some a) None = None

-- reads and outputs go by `keep`
abbrev pub by_keep : Order → Option (List Path) → Option (List Path)
by_keep Keep o = o
by_keep Swap o = None

-- a read or an output on the left goes first, else one on the right, else two calls
abbrev pub branches_by : Pairing → Order → Path → Option CellForms → Option CellForms → Option (List Path)
branches_by g order h (Some cell) right = by_keep order (read_branches g.params g.left h Left cell)
branches_by g order h None (Some cell) = by_keep order (read_branches g.params g.right h Right cell)
branches_by g order h None None = branches_of_calls g order h (call_at g.left h.left.position) (call_at g.right h.right.position)

-- the paths behind a step of the pair, in order; none where there is no such step
abbrev pub branches : Pairing → Order → Path → Option (List Path)
branches g order h = branches_by g order h (cell_read g.left h.left.position) (cell_read g.right h.right.position)
