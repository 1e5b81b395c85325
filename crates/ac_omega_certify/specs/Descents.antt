-- From the rows of a conjunction on the path to the rows that a choice leaves.
use Rattle.std.specs.Prelude.{◌≡◌, ◌⊎◌, ℕ, ◌<◌, ◌≤◌, ◌^◌, ℤ, neg_ℤ, unsigned_abs, List, [], ◌∷◌, length, get_or, cond, true, Some, slice_get}
use Rattle.ac_base.specs.Gcd.{content}
use Rattle.ac_forms.specs.Affine.{Affine, coef, shifted, column_form}
use Rattle.ac_forms.specs.Renaming.{AreColumns, AreDistinct}
use Rattle.ac_forms.specs.declared.conj.Conj.{Conj}
use Rattle.ac_forms.specs.declared.row.Row.{Row}
use Rattle.ac_forms.specs.declared.row.Row.TheVariants.{Eq, Div, Ge}
use Rattle.ac_omega_steps.specs.Bounds.{is_low}
use Rattle.ac_cert.specs.AbsurdEnd.{is_absurd}
use Rattle.ac_cert.specs.AcceptedTrees.{after_steps}
use Rattle.ac_omega_certify.specs.Leaves.{less}
use Rattle.ac_omega_certify.specs.TreePathRows.{StandsAt, Stand, one_form}
use Rattle.ac_omega_certify.specs.declared.descent.Base.{Base}
use Rattle.ac_omega_certify.specs.declared.descent.Below.{Below}
use Rattle.ac_omega_certify.specs.declared.descent.Below.TheVariants as below
use Rattle.ac_omega_certify.specs.declared.path.TreePath.{TreePath}

-- different columns of a path of that many
pub record AreNames (columns : ℕ) (names : List ℕ) : Type 0 where
  pub within : AreColumns columns names
  pub apart : AreDistinct names

-- the path has these columns and rows, and on it the rows stand at their places, under these names, beside `1 >= 0`
pub record StandOn (b : Base) (ns : List ℕ) (rs : List Row) (places : List ℕ) (path : Conj) : Type 0 where
  pub columns : path.columns ≡ b.columns
  pub rows : length path.rows ≡ b.rows
  pub one : StandsAt [] path b.one (Ge one_form)
  pub names : AreNames b.columns ns
  pub stand : Stand ns path rs places

-- how many columns and rows there are behind the steps of a tree path
abbrev pub base_of : TreePath → Base
base_of t = record { columns = t.columns; rows = t.rows; one = t.one }

-- the steps of the tree path lead from the start to a path on which the rows stand
pub record Carries (t : TreePath) (start : Conj) (names : List ℕ) (rs : List Row) (places : List ℕ) : Type 0 where
  pub path : Conj
  pub steps : after_steps t.steps start ≡ Some path
  pub stand : StandOn (base_of t) names rs places path

-- the steps of the tree path lead from the start to a path with an absurd row at the place
pub record ShowsAbsurd (t : TreePath) (start : Conj) (i : ℕ) : Type 0 where
  pub path : Conj
  pub steps : after_steps t.steps start ≡ Some path
  pub row : is_absurd (slice_get path.rows i) ≡ true

-- the rows stand behind the tree path, or an absurd row does
abbrev pub Settles : TreePath → Conj → List ℕ → Below → List Row → Type 0
Settles t start names (below.Absurd i) rs = ShowsAbsurd t start i
Settles t start names (below.Rows places) rs = Carries t start names rs places.items

-- each number of the form is at most 2^122, by absolute value
pub record IsFormUpTo2To122 (f : Affine) : Type 0 where
  pub konst : unsigned_abs f.konst ≤ 2 ^ 122
  pub coefs : (j : ℕ) → unsigned_abs (coef j f) ≤ 2 ^ 122

-- the row's numbers are at most 2^122 by absolute value, or it has no columns and no modulus
abbrev pub IsRowUpTo2To122 : Row → Type 0
IsRowUpTo2To122 (Eq f) = (content f.coefs ≡ 0) ⊎ IsFormUpTo2To122 f
IsRowUpTo2To122 (Div m f) = IsFormUpTo2To122 f × (unsigned_abs m ≤ 2 ^ 122)
IsRowUpTo2To122 (Ge f) = (content f.coefs ≡ 0) ⊎ IsFormUpTo2To122 f

abbrev pub AreRowsUpTo2To122 : List Row → Type 0
AreRowsUpTo2To122 [] = Unit {0}
AreRowsUpTo2To122 (r ∷ rs) = IsRowUpTo2To122 r × AreRowsUpTo2To122 rs

-- column z less r, of that many columns
abbrev pub column_less : ℕ → ℕ → ℤ → Affine
column_less columns z r = shifted (column_form columns z) (neg_ℤ r)

-- the lower rows of the column, in order, each less the number of its splinters
abbrev pub raised_rows : ℕ → List Row → List ℕ → List Row
raised_rows z [] ns = []
raised_rows z (r ∷ rs) [] = []
raised_rows z (Ge f ∷ rs) (n ∷ ns) = cond (is_low z f) (Ge (less f n) ∷ raised_rows z rs ns) (raised_rows z rs ns)
raised_rows z (Eq f ∷ rs) (n ∷ ns) = raised_rows z rs ns
raised_rows z (Div m f ∷ rs) (n ∷ ns) = raised_rows z rs ns
