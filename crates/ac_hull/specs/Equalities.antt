-- The equalities of a hull: for each column that is no pivot, a form that all rows of the elimination make 0.
use Rattle.std.specs.Prelude.{ℕ, ◌-◌, zero, suc, ◌==◌, Bool, true, false, if◌then◌else◌, ℤ, pos, ◌-ℤ◌, ◌*ℤ◌, neg_ℤ, List, [], ◌∷◌, ◌++◌, replicate, slice_set}
use Rattle.ac_base.specs.Dot.{dot, floored}
use Rattle.ac_base.specs.Gcd.{content}
use Rattle.ac_forms.specs.Affine.{Affine}
use Rattle.ac_forms.specs.NormalRows.{signed, divided}
use Rattle.ac_widen.specs.Combinations.{times}
use Rattle.ac_hull.specs.FractionFreeElimination.{entry, column_of, pivot_of}
use Rattle.ac_hull.specs.declared.line.Line.{Line}

-- 1 in one of the columns, 0 in the others
abbrev pub unit : ℕ → ℕ → List ℤ
unit columns z = replicate z (pos 0) ++ pos 1 ∷ replicate (columns - z - 1) (pos 0)

-- made 0 at a row: scaled by its pivot, less its sum at the pivot's column
abbrev pub cleared_by : Line → List ℤ → List ℤ
cleared_by l v = slice_set (times (pivot_of l) v) (column_of l) (pivot_of l *ℤ entry (column_of l) v -ℤ dot v l.coords)

-- at all rows, from the last to the first
abbrev pub cleared : List Line → List ℤ → List ℤ
cleared [] v = v
cleared (l ∷ ls) v = cleared_by l (cleared ls v)

-- the coefficients of the equality of a column
abbrev pub coefs_of : ℕ → List Line → ℕ → List ℤ
coefs_of columns ls z = cleared ls (unit columns z)

-- divided by their greatest common divisor
abbrev pub least_coefs : ℕ → List Line → ℕ → List ℤ
least_coefs columns ls z = floored (pos (content (coefs_of columns ls z))) (coefs_of columns ls z)

-- the form with these coefficients that is 0 at the point
abbrev pub through_form : List ℤ → List ℤ → Affine
through_form v f = record { konst = neg_ℤ (dot v f); coefs = v }

-- the equality, through a point
abbrev pub equality_of : ℕ → List Line → List ℤ → ℕ → Affine
equality_of columns ls f z = through_form (least_coefs columns ls z) f

-- the same as a test
abbrev pub is_free : List Line → ℕ → Bool
is_free [] z = true
is_free (l ∷ ls) z = if column_of l == z then false else is_free ls z

-- the normal form of the row `form = 0`, where its coefficients are not all 0 and their greatest common divisor divides the constant
abbrev pub normal_equality : Affine → Affine
normal_equality f = signed (divided (pos (content f.coefs)) f)

-- the equalities of the free columns below n, in order
abbrev pub equalities_below : ℕ → List Line → List ℤ → ℕ → List Affine
equalities_below columns ls f zero = []
equalities_below columns ls f (suc z) =
    if is_free ls z then equalities_below columns ls f z ++ normal_equality (equality_of columns ls f z) ∷ [] else equalities_below columns ls f z
