-- Rows and conjunctions of rows: which points meet them.
use Rattle.std.specs.Prelude.{◌≡◌, ℕ, ◌≤◌, ℤ, pos, ◌≤ℤ◌, List, [], ◌∷◌, length}
use Rattle.ac_base.specs.Multiple.{IsMultiple}
use Rattle.ac_forms.specs.Affine.{Affine, value_at, CanEvaluate}
use Rattle.ac_forms.specs.declared.row.Row.{Row}
use Rattle.ac_forms.specs.declared.row.Row.TheVariants.{Eq, Div, Ge}
use Rattle.ac_forms.specs.declared.conj.Conj.{Conj}

-- the form of a row
abbrev pub form_of : Row → Affine
form_of (Eq f) = f
form_of (Div m f) = f
form_of (Ge f) = f

-- `Eq` says form = 0, `Div` that the modulus divides the form, `Ge` form >= 0
abbrev pub Holds : Row → List ℤ → Type 0
Holds (Eq f) p = value_at f p ≡ pos 0
Holds (Div m f) p = IsMultiple m (value_at f p)
Holds (Ge f) p = pos 0 ≤ℤ value_at f p

-- the point meets all rows
abbrev pub Meets : List Row → List ℤ → Type 0
Meets [] p = Unit {0}
Meets (r ∷ rs) p = Holds r p × Meets rs p

-- the modulus of a row that has one is at least 1
abbrev pub HasModulus : Row → Type 0
HasModulus (Eq f) = Unit {0}
HasModulus (Div m f) = pos 1 ≤ℤ m
HasModulus (Ge f) = Unit {0}

abbrev pub HaveModuli : List Row → Type 0
HaveModuli [] = Unit {0}
HaveModuli (r ∷ rs) = HasModulus r × HaveModuli rs

-- the row is well made over that many columns
abbrev pub IsRowOver : ℕ → Row → Type 0
IsRowOver columns r = (length (form_of r).coefs ≤ columns) × HasModulus r

abbrev pub AreRowsOver : ℕ → List Row → Type 0
AreRowsOver columns [] = Unit {0}
AreRowsOver columns (r ∷ rs) = IsRowOver columns r × AreRowsOver columns rs

-- the conjunction is well made
abbrev pub IsWellMade : Conj → Type 0
IsWellMade conj = AreRowsOver conj.columns conj.rows

-- each row up to the first that does not hold can be evaluated in `i128`
abbrev pub CanTest : List Row → List ℤ → Type 0
CanTest [] p = Unit {0}
CanTest (r ∷ rs) p = CanEvaluate (form_of r) p × (Holds r p → CanTest rs p)
