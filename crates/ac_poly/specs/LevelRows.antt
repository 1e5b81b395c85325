-- The order of entries as rows: the counters of the first assignment stand from one column on, those of the second from another.
use Rattle.std.specs.Prelude.{ℕ, zero, suc, ◌+◌, ◌<◌, ◌≤◌, ◌≡◌, ◌↔◌, ◌++◌, List, [], ◌∷◌, length, map, ℤ, pos, negsuc, Bool, if◌then◌else◌, nat_lt, slice_index_or}
use Rattle.std.specs.List.{AllByRecursion, range_with_len}
use Rattle.ac_forms.specs.Affine.{Affine, FormFits, column_form, combined, shifted}
use Rattle.ac_forms.specs.Rows.{Meets, AreRowsOver}
use Rattle.ac_forms.specs.declared.row.Row.{Row}
use Rattle.ac_forms.specs.declared.row.Row.TheVariants.{Ge, Eq}
use Rattle.ac_syntax.specs.LoopNests.{common}
use Rattle.ac_syntax.specs.ReadyPrograms.{ReadyAll}
use Rattle.ac_syntax.specs.Source.{Writer, Stands}
use Rattle.ac_syntax.specs.Trace.{trace_of}
use Rattle.ac_syntax.specs.declared.tree.Stmt.{Stmt}
use Rattle.ac_poly.specs.ModelMeaning.{Lowered, values_at}
use Rattle.ac_forms.specs.PieceMembership.{IsInSome, IsInOneAtMost}
use Rattle.ac_poly.specs.declared.types.StmtModel.{StmtModel}

-- the column j less the column i, plus k
abbrev pub difference : ℕ → ℕ → ℤ → Affine
difference i j k = shifted (combined (pos 1) (column_form (j + 1) j) (negsuc 0) (column_form (i + 1) i)) k

-- the levels from a common loop on, of which c are left and whose counters stand in the columns i and j, where the rows
-- `done` say that the counters before agree: the next counter rises, or it agrees and a later level holds; where all agree,
-- the text decides
abbrev pub levels_from : ℕ → ℕ → ℕ → Bool → List Row → List (List Row)
levels_from zero i j text done = if text then done ∷ [] else []
levels_from (suc c) i j text done =
    (done ++ Ge (difference i j (negsuc 0)) ∷ []) ∷ levels_from c (i + 1) (j + 1) text (done ++ Eq (difference i j (pos 0)) ∷ [])

-- the levels of an assignment in loops ls, with its counters from column i on, and one in loops ms, with its from column j
-- on; `text` says that the first stands before in the text
abbrev pub levels : ℕ → ℕ → List ℕ → List ℕ → Bool → List (List Row)
levels i j ls ms text = levels_from (common ls ms) i j text []

-- the numbers of a point in so many columns from one on, 0 where it has none
abbrev pub numbers : ℕ → ℕ → List ℤ → List ℤ
numbers first count p = map (λ k. slice_index_or p k (pos 0)) (range_with_len first count)

-- an entry stands before another in the trace exactly where one of the levels holds at their counters
abbrev pub LevelsAreTheOrder : Type 0
LevelsAreTheOrder =
    (body : List Stmt) (params p : List ℤ) (i j : ℕ) (w u : Writer) (first second : StmtModel) → ReadyAll (length params) 0 body
    → Lowered (length params) body w.entry.stmt first → Lowered (length params) body u.entry.stmt second
    → Stands (trace_of body params) w → Stands (trace_of body params) u
    → numbers i (length first.loops) p ≡ w.entry.counters → numbers j (length second.loops) p ≡ u.entry.counters
    → (length w.earlier < length u.earlier) ↔ IsInSome Meets (levels i j first.loops second.loops (nat_lt w.entry.stmt u.entry.stmt)) p

-- no two levels hold at one point
abbrev pub LevelsAreApart : Type 0
LevelsAreApart = (i j : ℕ) (ls ms : List ℕ) (text : Bool) (p : List ℤ) → IsInOneAtMost Meets (levels i j ls ms text) p

-- their rows have no columns but those of the counters, and no modulus below 1
abbrev pub LevelsHaveColumns : Type 0
LevelsHaveColumns = (i j n : ℕ) (ls ms : List ℕ) (text : Bool) → i + length ls ≤ n → j + length ms ≤ n → AllByRecursion (AreRowsOver n) (levels i j ls ms text)

-- they hold wherever the counters are the same
abbrev pub LevelsMove : Type 0
LevelsMove =
    (i j k l : ℕ) (ls ms : List ℕ) (text : Bool) (p q : List ℤ) → numbers i (length ls) p ≡ numbers k (length ls) q → numbers j (length ms) p ≡ numbers l (length ms) q
    → IsInSome Meets (levels i j ls ms text) p ↔ IsInSome Meets (levels k l ls ms text) q

-- one equality for each dimension
abbrev pub equalities : List Affine → List Affine → List Row
equalities [] gs = []
equalities (f ∷ fs) [] = []
equalities (f ∷ fs) (g ∷ gs) = Eq (combined (pos 1) f (negsuc 0) g) ∷ equalities fs gs

-- the differences of the forms are made in `i128`
abbrev pub CanEquate : List Affine → List Affine → Type 0
CanEquate [] gs = Unit {0}
CanEquate (f ∷ fs) [] = Unit {0}
CanEquate (f ∷ fs) (g ∷ gs) = FormFits (combined (pos 1) f (negsuc 0) g) × CanEquate fs gs

-- the equalities hold exactly where all values are equal
abbrev pub EqualitiesAreEqualValues : Type 0
EqualitiesAreEqualValues = (fs gs : List Affine) (p : List ℤ) → length fs ≡ length gs → Meets (equalities fs gs) p ↔ (values_at p fs ≡ values_at p gs)
