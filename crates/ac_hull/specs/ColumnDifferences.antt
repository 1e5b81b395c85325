-- Rows over the difference of two columns, and when one says no more than others.
use Rattle.std.specs.Prelude.{◌≡◌, ◌⊎◌, ℕ, ◌<◌, ◌≤◌, ℤ, pos, unsigned_abs, ◌+ℤ◌, ◌-ℤ◌, ◌≤ℤ◌, List, Option, Some, None}
use Rattle.ac_base.specs.Multiple.{IsMultiple}
use Rattle.ac_forms.specs.Affine.{Affine}
use Rattle.ac_forms.specs.Fits.{Fits}
use Rattle.ac_forms.specs.declared.row.Row.{Row}
use Rattle.ac_forms.specs.declared.row.Row.TheVariants.{Div, Ge}
use Rattle.ac_forms.specs.ListMembers.{IsAmong}
use Rattle.ac_widen.specs.Combinations.{Each}
use Rattle.ac_hull.specs.FractionFreeElimination.{entry}
use Rattle.ac_hull.specs.Templates.{difference}
use Rattle.ac_hull.specs.declared.difference.Difference.{Difference}

-- one column less another at a point; a column past the end is 0
abbrev pub gap : ℕ → ℕ → List ℤ → ℤ
gap s t p = entry s p -ℤ entry t p

-- the same, for a row's columns
abbrev pub gap_of : Difference → List ℤ → ℤ
gap_of d p = gap d.first d.second p

-- each difference of two columns is a number of `i128`
abbrev pub GapsFit : List ℤ → Type 0
GapsFit p = (s t : ℕ) → Fits (gap s t p)

abbrev pub row_with : Affine → Option ℤ → Row
row_with f None = Ge f
row_with f (Some m) = Div m f

-- the row: `first - second + constant >= 0`, or that its modulus divides this form
abbrev pub row_of : ℕ → Difference → Row
row_of columns d = row_with (difference columns d.first d.second d.constant) d.modulus

-- the difference of the columns is one number at all points
abbrev pub IsConstant : List (List ℤ) → Difference → Type 0
IsConstant points d = (p q : List ℤ) → IsAmong p points → IsAmong q points → gap_of d p ≡ gap_of d q

-- the row says no more than another: both are bounds, or classes of one modulus; the forms differ by one number at all points; and a
-- bound's form is no less than the other's
pub record IsWeaker (points : List (List ℤ)) (e d : Difference) : Type 0 where
  pub kind : e.modulus ≡ d.modulus
  pub parallel : (p q : List ℤ) → IsAmong p points → IsAmong q points → gap_of d p -ℤ gap_of d q ≡ gap_of e p -ℤ gap_of e q
  pub below : d.modulus ≡ None → (p : List ℤ) → IsAmong p points → (gap_of e p +ℤ e.constant) ≤ℤ (gap_of d p +ℤ d.constant)

-- the row says no more than the sum of two
pub record IsSum (a b d : Difference) : Type 0 where
  pub left : a.modulus ≡ d.modulus
  pub right : b.modulus ≡ d.modulus
  pub first : a.first ≡ d.first
  pub between : a.second ≡ b.first
  pub second : b.second ≡ d.second
  pub below : d.modulus ≡ None → (a.constant +ℤ b.constant) ≤ℤ d.constant

-- a bound holds at a number of at least 0, a class at the multiples of its modulus
abbrev pub HoldsWith : Option ℤ → ℤ → Type 0
HoldsWith None v = pos 0 ≤ℤ v
HoldsWith (Some m) v = IsMultiple m v

-- all points meet the row of two columns, a kind and a constant
abbrev pub AllMeet : List (List ℤ) → ℕ → ℕ → Option ℤ → ℤ → Type 0
AllMeet points s t kind c = Each (λ p. HoldsWith kind (gap s t p +ℤ c)) points

-- the same, for a row
abbrev pub AllMeetRow : List (List ℤ) → Difference → Type 0
AllMeetRow points d = AllMeet points d.first d.second d.modulus d.constant

-- a row that the points meet rests on kept ones: it is one of them, constant on the points, or says no more than one row that rests on
-- them, or than the sum of two
pub data RestsOn (points : List (List ℤ)) (kept : List Difference) : Difference → Type 0 where
  own : (d : Difference) → IsAmong d kept → RestsOn points kept d
  constant : (d : Difference) → AllMeetRow points d → IsConstant points d → RestsOn points kept d
  weaker : (e d : Difference) → AllMeetRow points d → RestsOn points kept e → IsWeaker points e d → RestsOn points kept d
  sum : (a b d : Difference) → AllMeetRow points d → RestsOn points kept a → RestsOn points kept b → IsSum a b d → RestsOn points kept d

-- of the rows with P those that a claim keeps: all rest on them, and none of them is constant, or left out for others of them
pub record IsThin (points : List (List ℤ)) (P : Difference → Type 0) (kept : List Difference) : Type 0 where
  pub among : (d : Difference) → IsAmong d kept → P d
  pub rests : (d : Difference) → P d → RestsOn points kept d
  pub varying : (d : Difference) → IsAmong d kept → ¬ (IsConstant points d)
  pub apart : (e d : Difference) → IsAmong e kept → IsAmong d kept → ¬ (e ≡ d) → ¬ (IsWeaker points e d)
  pub whole : (a b d : Difference) → IsAmong a kept → IsAmong b kept → IsAmong d kept → ¬ (a ≡ d) → ¬ (b ≡ d) → ¬ (IsSum a b d)

-- a bound of two columns, and a class of a modulus
abbrev pub bound : ℕ → ℕ → ℤ → Difference
bound s t c = record { first = s; second = t; constant = c; modulus = None }

abbrev pub class_of : ℕ → ℕ → ℤ → ℕ → Difference
class_of s t m c = record { first = s; second = t; constant = pos c; modulus = Some m }

-- a row of the template over two columns: a bound of different columns by a threshold, or a class of a modulus, the first column before
-- the second
abbrev pub IsOfPair : List ℤ → List ℤ → ℕ → ℕ → Difference → Type 0
IsOfPair thresholds moduli s t d =
    ((¬ (s ≡ t)) × ((c : ℤ) × IsAmong c thresholds × (d ≡ bound s t c))) ⊎ ((s < t) × ((m : ℤ) × (c : ℕ) × IsAmong m moduli × (c < unsigned_abs m) × (d ≡ class_of s t m c)))

-- a row of the template that all points meet
abbrev pub IsMetRow : ℕ → List ℤ → List ℤ → List (List ℤ) → Difference → Type 0
IsMetRow columns thresholds moduli points d = ((s : ℕ) × (t : ℕ) × (s ≤ columns) × (t ≤ columns) × IsOfPair thresholds moduli s t d) × AllMeetRow points d
