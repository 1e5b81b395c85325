-- Rows in which an equality replaces a column, and lists of rows that a tree path leads to.
use Rattle.std.specs.Prelude.{ℕ, pos, neg_ℤ, ◌*ℤ◌, ◌≤ℤ◌, List, [], ◌∷◌}
use Rattle.ac_forms.specs.Affine.{Affine, coef}
use Rattle.ac_forms.specs.Fits.{Fits}
use Rattle.ac_forms.specs.FormOrder.{modulus_of}
use Rattle.ac_forms.specs.Rows.{HasModulus, form_of}
use Rattle.ac_forms.specs.declared.conj.Conj.{Conj}
use Rattle.ac_forms.specs.declared.row.Row.{Row}
use Rattle.ac_omega_steps.specs.Bounds.{without}
use Rattle.ac_omega_steps.specs.Choices.{size_of, against}
use Rattle.ac_omega_certify.specs.TreePathRows.{Blends, IsOnto, Reaches, Stand}
use Rattle.ac_omega_certify.specs.declared.path.TreePath.{TreePath}

-- the equality has the column, and its coefficient's absolute value is one of `i128`, as are all numbers of the form without the column
pub record CanDivide (z : ℕ) (g : Affine) : Type 0 where
  pub column : pos 1 ≤ℤ size_of (coef z g)
  pub size : Fits (size_of (coef z g))
  pub blends : Blends (pos 1) g (neg_ℤ (pos 1)) (without z g)

-- the row with the equality in place of the column stays in `i128`
pub record CanReplace (z : ℕ) (g : Affine) (r : Row) : Type 0 where
  pub factor : Fits (against (coef z g) (coef z (form_of r)))
  pub blends : Blends (size_of (coef z g)) (form_of r) (against (coef z g) (coef z (form_of r))) g
  pub modulus : HasModulus r
  pub product : Fits (size_of (coef z g) *ℤ modulus_of r)

abbrev pub CanReplaceAll : ℕ → Affine → List Row → Type 0
CanReplaceAll z g [] = Unit {0}
CanReplaceAll z g (r ∷ rs) = CanReplace z g r × CanReplaceAll z g rs

-- the tree path goes on from the path, to one on which the rows stand at their places
pub record LeadsAll (t : TreePath) (start path : Conj) (names : List ℕ) (rs : List Row) (places : List ℕ) : Type 0 where
  pub further : Conj
  pub reaches : Reaches t start further
  pub onto : IsOnto path further
  pub stand : Stand names further rs places
