-- The questions of a schedule, as rows: the context, a piece of each of two assignments, a level by which the first stands
-- before, the equalities of two cells of which one is a target, and a way in which the time of the first isn't smaller.
use Rattle.std.specs.Prelude.{ℕ, ◌+◌, ◌==◌, ◌&&◌, pos, negsuc, List, [], ◌∷◌, ◌++◌, map, length, if◌then◌else◌, ℤ}
use Rattle.std.specs.List.{flat_map, range_with_len}
use Rattle.ac_forms.specs.Affine.{Affine, combined, shifted}
use Rattle.ac_forms.specs.Renaming.{renamed, renamed_row}
use Rattle.ac_forms.specs.declared.row.Row.{Row}
use Rattle.ac_forms.specs.declared.row.Row.TheVariants.{Ge, Eq}
use Rattle.ac_syntax.specs.Algebra.{Cell}
use Rattle.ac_poly.specs.LevelRows.{equalities}
use Rattle.ac_poly.specs.Coordinates.{width, levels_before}
use Rattle.ac_poly.specs.ModelMeaning.{values_at}
use Rattle.ac_poly.specs.declared.types.Model.{Model}
use Rattle.ac_poly.specs.declared.types.NodeModel.{NodeModel}
use Rattle.ac_poly.specs.declared.types.NodeModel.TheVariants.{Number, Read, Call}
use Rattle.ac_poly.specs.declared.types.StmtModel.{StmtModel}
use Rattle.ac_legal_law.specs.Schedules.{forms_of}

-- ---- columns: the parameters, the coordinates of the first and those of the second

-- of the pieces and cells of an assignment: the parameters and its coordinates
abbrev pub first_columns : ℕ → StmtModel → List ℕ
first_columns params s = range_with_len 0 params ++ range_with_len params (width s)

abbrev pub second_columns : ℕ → StmtModel → StmtModel → List ℕ
second_columns params s u = range_with_len 0 params ++ range_with_len (params + width s) (width u)

-- of its times: the parameters and its counters, which come first among its coordinates
abbrev pub first_counters : ℕ → StmtModel → List ℕ
first_counters params s = range_with_len 0 params ++ range_with_len params (length s.loops)

abbrev pub second_counters : ℕ → StmtModel → StmtModel → List ℕ
second_counters params s u = range_with_len 0 params ++ range_with_len (params + width s) (length u.loops)

-- ---- cells

-- a cell, by the forms of its subscripts
pub record CellForms : Type 0 where
  pub array : ℕ
  pub subs : List Affine

-- the cell at a point
abbrev pub cell_there : CellForms → List ℤ → Cell
cell_there a p = record { array = a.array; at = values_at p a.subs }

abbrev pub written : StmtModel → CellForms
written s = record { array = s.array; subs = s.subs }

abbrev pub reads : List NodeModel → List CellForms
reads [] = []
reads (Number f ∷ ns) = reads ns
reads (Read array subs ∷ ns) = record { array = array; subs = subs } ∷ reads ns
reads (Call symbol args ∷ ns) = reads ns

-- the equalities by which two cells are one, if their arrays are
abbrev pub same_cells : List ℕ → List ℕ → CellForms → CellForms → List (List Row)
same_cells ks ls a b = if (a.array == b.array) && (length a.subs == length b.subs) then equalities (map (renamed ks) a.subs) (map (renamed ls) b.subs) ∷ [] else []

-- the target of the first is used by the second, or the first reads the target of the second
abbrev pub clashes : List ℕ → List ℕ → StmtModel → StmtModel → List (List Row)
clashes ks ls s u = flat_map (same_cells ks ls (written s)) (written u ∷ reads u.nodes) ++ flat_map (λ a. same_cells ks ls a (written u)) (reads s.nodes)

-- ---- times

-- the first numbers are equal and the next of the first time is at least 1 more, or all are equal
abbrev pub late : List Affine → List Affine → List Row → List (List Row)
late [] [] done = done ∷ []
late [] (g ∷ gs) done = []
late (f ∷ fs) [] done = done ∷ []
late (f ∷ fs) (g ∷ gs) done =
    (done ++ Ge (shifted (combined (pos 1) f (negsuc 0) g) (negsuc 0)) ∷ []) ∷ late fs gs (done ++ Eq (combined (pos 1) f (negsuc 0) g) ∷ [])

-- ---- all of them

-- one of the first with one of the second
abbrev pub joined : List (List Row) → List (List Row) → List (List Row)
joined [] bs = []
joined (a ∷ rest) bs = map (λ b. a ++ b) bs ++ joined rest bs

-- the questions at instances of the assignment i and of the assignment j
abbrev pub order_questions : Model → List (List Affine) → ℕ → StmtModel → ℕ → StmtModel → List (List Row)
order_questions m times i s j u =
    let ks = first_columns m.params s in
    let ls = second_columns m.params s u in
    joined (m.context ∷ [])
    (joined (map (map (renamed_row ks)) s.pieces)
    (joined (map (map (renamed_row ls)) u.pieces)
    (joined (levels_before m.params i s j u)
    (joined (clashes ks ls s u)
    (late (map (renamed (first_counters m.params s)) (forms_of times i)) (map (renamed (second_counters m.params s u)) (forms_of times j)) [])))))
