-- How a comparison holds and fails at a point, by its row and the rows of its negation, whatever it compares.
use Rattle.std.specs.Prelude.{◌≡◌, ◌↔◌, ℕ, ℤ, List, [], ◌∷◌, ◌++◌, Bool, true, false}
use Rattle.ac_forms.specs.Affine.{Affine}
use Rattle.ac_forms.specs.Negation.{above, below}
use Rattle.ac_forms.specs.PieceMembership.{IsInSome, IsInOneAtMost}
use Rattle.ac_forms.specs.Rows.{Holds}
use Rattle.ac_forms.specs.declared.row.Row.{Row}
use Rattle.ac_forms.specs.declared.row.Row.TheVariants.{Eq, Ge}
use Rattle.ac_poly_quotients.specs.declared.types.Way.{Way}
use Rattle.ac_poly_quotients.specs.QuotientRows.{multiple_row, other_row}

abbrev pub row_of : Way → Row
row_of w = w.row

-- a form that is to be at least 0 is at most -1 where it fails
abbrev pub way_of_bound : Affine → Way
way_of_bound f = record { row = Ge f; negations = Ge (below f) ∷ [] }

-- one that is to be 0 is at least 1 or at most -1
abbrev pub way_of_zero : Affine → Way
way_of_zero f = record { row = Eq f; negations = Ge (above f) ∷ Ge (below f) ∷ [] }

-- `m divides e`, where the quotient stands in column k
abbrev pub way_of_multiple : ℕ → ℤ → Affine → Way
way_of_multiple k m e = record { row = multiple_row k m e; negations = other_row k m e ∷ [] }

-- a piece with one of the rows each
abbrev pub with_each : List Row → List Row → List (List Row)
with_each q [] = []
with_each q (r ∷ rs) = (q ++ r ∷ []) ∷ with_each q rs

-- the parts of a piece in which a condition fails: one for each way in which a comparison is the first to fail
abbrev pub failing_by : List Way → List Row → List (List Row)
failing_by [] q = []
failing_by (w ∷ ws) q = with_each q w.negations ++ failing_by ws (q ++ w.row ∷ [])

-- at the point the row holds where the test does, and one of the others where it doesn't
pub record Decides (w : Way) (b : Bool) (p : List ℤ) : Type 0 where
  pub holds : Holds w.row p ↔ (b ≡ true)
  pub fails : IsInSome Holds w.negations p ↔ (b ≡ false)

-- no point meets two of the rows
pub record IsApart (w : Way) : Type 0 where
  pub once : (p : List ℤ) → IsInOneAtMost Holds w.negations p
  pub never : (p : List ℤ) → IsInSome Holds w.negations p → ¬ Holds w.row p
