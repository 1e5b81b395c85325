-- Rows in which m times a further column plus r replaces a column.
use Rattle.std.specs.Prelude.{ℕ, ◌≤◌, ◌^◌, ℤ, pos, neg_ℤ, unsigned_abs, List, [], ◌∷◌}
use Rattle.ac_forms.specs.Affine.{Affine, coef, combined}
use Rattle.ac_forms.specs.Negation.{with_column}
use Rattle.ac_forms.specs.Rows.{form_of, HasModulus}
use Rattle.ac_forms.specs.declared.conj.Conj.{Conj}
use Rattle.ac_forms.specs.declared.row.Row.{Row}
use Rattle.ac_omega_certify.specs.Descents.{column_less}
use Rattle.ac_forms.specs.Renaming.{with_form}
use Rattle.ac_omega_certify.specs.TreePathRows.{Blends, IsOnto, Reaches, Stand}
use Rattle.ac_omega_certify.specs.declared.path.TreePath.{TreePath}

-- column z of that many, less r and m times a further column
abbrev pub quotient_form : ℕ → ℕ → ℤ → ℤ → Affine
quotient_form columns z m r = with_column columns (neg_ℤ m) (column_less columns z r)

-- the row less its coefficient of column z times a form
abbrev pub less_times : ℕ → Affine → Row → Row
less_times z e r = with_form r (combined (pos 1) (form_of r) (neg_ℤ (coef z (form_of r))) e)

-- the coefficients of column z are at most 2^120, by absolute value
abbrev pub AreSmall : ℕ → List Row → Type 0
AreSmall z [] = Unit {0}
AreSmall z (r ∷ rs) = (unsigned_abs (coef z (form_of r)) ≤ 2 ^ 120) × AreSmall z rs

-- the row's modulus is at least 1, and the numbers of the row less its coefficient times the form stay in `i128`
pub record CanTake (z : ℕ) (e : Affine) (r : Row) : Type 0 where
  pub blends : Blends (pos 1) (form_of r) (neg_ℤ (coef z (form_of r))) e
  pub modulus : HasModulus r

abbrev pub AllCanTake : ℕ → Affine → List Row → Type 0
AllCanTake z e [] = Unit {0}
AllCanTake z e (r ∷ rs) = CanTake z e r × AllCanTake z e rs

-- the tree path goes on from the path, to one on which the rows stand at their places
pub record LeadsAll (t : TreePath) (start path : Conj) (names : List ℕ) (rs : List Row) (places : List ℕ) : Type 0 where
  pub further : Conj
  pub reaches : Reaches t start further
  pub onto : IsOnto path further
  pub stand : Stand names further rs places
