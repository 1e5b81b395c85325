-- When a copy kills a place: an assignment that writes the cell again between the assumed source and the reader.
use Rattle.std.specs.Prelude.{ℕ, ◌+◌, ◌-◌, ◌&&◌, Bool, true, List, [], ◌∷◌, ◌++◌, length, Option, Some, None, option_and_then, cond, nat_eq, nat_le, slice_get}
use Rattle.ac_forms.specs.NormalForm.{normal_conj}
use Rattle.ac_forms.specs.Rows.{form_of}
use Rattle.ac_forms.specs.RangeTests.{rows_fit}
use Rattle.ac_forms.specs.declared.conj.Conj.{Conj}
use Rattle.ac_forms.specs.declared.row.Row.{Row}
use Rattle.ac_syntax.specs.declared.tree.Position.{Position}
use Rattle.ac_syntax.specs.declared.tree.Position.TheVariants.{Output, Node, InitialOutput, InitialNode}
use Rattle.ac_poly.specs.declared.types.Model.{Model}
use Rattle.ac_poly.specs.declared.types.StmtModel.{StmtModel}
use Rattle.ac_omega_steps.specs.ChoiceFits.{after_choice}
use Rattle.ac_omega_steps.specs.Choices.{column_of, is_legal}
use Rattle.ac_omega_steps.specs.declared.choose.Choice.{Choice}
use Rattle.ac_omega_steps.specs.declared.choose.Choice.TheVariants as choice
use Rattle.ac_forms.specs.Renaming.{rows_renaming}
use Rattle.ac_claims_paths.specs.PathColumns.{base, columns_of, appended}
use Rattle.ac_claims_paths.specs.InstanceCoordinates.{width, levels_before}
use Rattle.ac_claims_paths.specs.PathSteps.{Pairing, model_of, root, case_rows}
use Rattle.ac_claims_paths.specs.ModelPositions.{cell_read, levels_to}
use Rattle.ac_claims_paths.specs.PathRows.{made_and_stand}
use Rattle.ac_claims_paths.specs.declared.path.Assumed.{Assumed}
use Rattle.ac_claims_paths.specs.declared.path.Seat.{Seat}

-- the assignment of a root
abbrev pub assignment_of : Position → ℕ
assignment_of (Output o) = 0
assignment_of (Node s k) = s
assignment_of (InitialOutput o) = 0
assignment_of (InitialNode s k) = s

abbrev pub assignment_at : Seat → ℕ
assignment_at seat = assignment_of seat.position

-- the rows by which a copy stands after the assumed source: by a level, or none are asked where the initial contents are assumed
abbrev pub after_rows : Pairing → Model → Option Seat → Option ℕ → ℕ → Seat → StmtModel → Option (List Row)
after_rows g m None None u copy stmt = Some []
after_rows g m None (Some level) u copy stmt = None
after_rows g m (Some source) None u copy stmt = None
after_rows g m (Some source) (Some level) u copy stmt =
    option_and_then (λ (from : StmtModel). option_and_then (λ rows. rows_renaming (base g.params ++ (columns_of source ++ columns_of copy)) rows) (slice_get (levels_before g.params (assignment_at source) from u stmt) level)) (slice_get m.stmts (assignment_at source))

-- the rows of a copy of the assignment u, whose coordinates stand in the columns from `columns` on
abbrev pub copy_rows : Pairing → Assumed → ℕ → ℕ → ℕ → Option ℕ → ℕ → StmtModel → Option (List Row)
copy_rows g a columns u piece after before stmt =
    let m = model_of g a.side in
    let copy = root columns u stmt in
    option_and_then (λ cell. cond (nat_eq stmt.array cell.array)
    (option_and_then (λ piece. option_and_then (λ level. appended (case_rows g.params a.reader cell copy stmt piece level) (after_rows g m a.source after u copy stmt)) (slice_get (levels_to m u stmt a.reader.position) before)) (slice_get stmt.pieces piece))
    None) (cell_read m a.reader.position)

-- the path's columns of a case: the parameters, the coordinates of the reader and those of the assumed source
abbrev pub source_columns : Option Seat → List ℕ
source_columns None = []
source_columns (Some seat) = columns_of seat

abbrev pub case_columns : ℕ → Assumed → List ℕ
case_columns params a = base params ++ (columns_of a.reader ++ source_columns a.source)

-- how many they are
abbrev pub source_width : Option Seat → ℕ
source_width None = 0
source_width (Some seat) = seat.width

abbrev pub case_width : ℕ → Assumed → ℕ
case_width params a = params + (a.reader.width + source_width a.source)

-- what was assumed, over a case's own columns: these in order and no others
abbrev pub seat_from : ℕ → Seat → Seat
seat_from first seat = record { position = seat.position; first = first; width = seat.width }

abbrev pub source_from : ℕ → Option Seat → Option Seat
source_from first None = None
source_from first (Some seat) = Some (seat_from first seat)

abbrev pub with_own_columns : ℕ → Assumed → Assumed
with_own_columns params a = record { side = a.side; reader = seat_from params a.reader; source = source_from (params + a.reader.width) a.source }

-- rows in normal form
abbrev pub normal_of : ℕ → List Row → Option Conj
normal_of columns rows = cond (rows_fit rows) (Some (normal_conj (record { columns = columns; rows = rows }))) None

-- the rows of a copy of an assignment in normal form, over the case's own columns and then the copy's
abbrev pub copy_by : Pairing → Assumed → ℕ → ℕ → Option ℕ → ℕ → StmtModel → Option Conj
copy_by g a u piece after before stmt =
    option_and_then (normal_of (case_width g.params a + width stmt)) (copy_rows g (with_own_columns g.params a) (case_width g.params a) u piece after before stmt)

-- the same, where the assignment is there
abbrev pub copy_of : Pairing → Assumed → ℕ → ℕ → Option ℕ → ℕ → Option Conj
copy_of g a u piece after before = option_and_then (copy_by g a u piece after before) (slice_get (model_of g a.side).stmts u)

-- a choice by another column
abbrev pub by_column : ℕ → Choice → Choice
by_column z (choice.Drop y) = choice.Drop z
by_column z (choice.Equal y i) = choice.Equal z i
by_column z (choice.Residue y m r) = choice.Residue z m r
by_column z (choice.Shadow y) = choice.Shadow z
by_column z (choice.Splinter y i k) = choice.Splinter z i k

-- a choice that names a column of the copy and is legal, and what it leaves: the copy's columns are named as if they stood
-- behind those of the path, and are those behind the case's own
abbrev pub taken_legally : Choice → Conj → Option Conj
taken_legally x c = cond (is_legal x c) (after_choice x c) None

abbrev pub chosen : ℕ → ℕ → Choice → Conj → Option Conj
chosen columns n x c = cond (nat_le columns (column_of x)) (taken_legally (by_column (n + (column_of x - columns)) x) c) None

-- what several choices leave, one after the other
abbrev pub all_chosen : ℕ → ℕ → List Choice → Conj → Option Conj
all_chosen columns n [] c = Some c
all_chosen columns n (x ∷ xs) c = option_and_then (λ d. all_chosen columns n xs d) (chosen columns n x c)

-- no row has a coefficient in a column from this one on
abbrev pub ends_before : ℕ → List Row → Bool
ends_before columns [] = true
ends_before columns (r ∷ rs) = nat_le (length (form_of r).coefs) columns && ends_before columns rs

-- what is left of a copy has none of its columns, and stands among the rows of the path
abbrev pub is_killed : ℕ → List Row → Assumed → Conj → Bool
is_killed params rows a left = ends_before (case_width params a) left.rows && made_and_stand rows (rows_renaming (case_columns params a) left.rows)
