-- Quotients rounded down: their values, and the two rows by which each is told.
use Rattle.std.specs.Prelude.{◌≡◌, ℕ, ◌+◌, ◌≤◌, ℤ, pos, negsuc, neg_ℤ, ◌-ℤ◌, ◌≤ℤ◌, List, [], ◌∷◌, ◌++◌, length, slice_index_or}
use Rattle.std.specs.Int.{int_div_euclid}
use Rattle.ac_forms.specs.Affine.{Affine, value_at, column_form, combined, shifted}
use Rattle.ac_forms.specs.Negation.{above}
use Rattle.ac_forms.specs.declared.row.Row.{Row}
use Rattle.ac_forms.specs.declared.row.Row.TheVariants.{Eq, Ge}
use Rattle.ac_poly_quotients.specs.declared.types.Rounded.{Rounded}

-- the value of a quotient at a point
abbrev pub rounded_at : Rounded → List ℤ → ℤ
rounded_at q p = int_div_euclid (value_at q.form p) q.div

-- the values of quotients, of which each may use those before it
abbrev pub quotients_at : List Rounded → List ℤ → List ℤ
quotients_at [] p = []
quotients_at (q ∷ qs) p = rounded_at q p ∷ quotients_at qs (p ++ rounded_at q p ∷ [])

-- what the division leaves, where the quotient stands in column k: e - c q
abbrev pub rest_form : ℕ → Rounded → Affine
rest_form k q = combined (pos 1) q.form (neg_ℤ q.div) (column_form (k + 1) k)

-- how far that is below the divisor, less 1: c q + c - 1 - e
abbrev pub spare_form : ℕ → Rounded → Affine
spare_form k q = shifted (combined q.div (column_form (k + 1) k) (negsuc 0) q.form) (q.div -ℤ pos 1)

-- the rows of quotients that stand from column k on
abbrev pub quotient_rows : ℕ → List Rounded → List Row
quotient_rows k [] = []
quotient_rows k (q ∷ qs) = Ge (rest_form k q) ∷ (Ge (spare_form k q) ∷ quotient_rows (k + 1) qs)

-- each is over the columns before it, of which the first has k; its divisor is at least 1
abbrev pub AreMade : ℕ → List Rounded → Type 0
AreMade k [] = Unit {0}
AreMade k (q ∷ qs) = (length q.form.coefs ≤ k) × (pos 1 ≤ℤ q.div) × AreMade (k + 1) qs

-- the divisors alone
abbrev pub HaveDivisors : List Rounded → Type 0
HaveDivisors [] = Unit {0}
HaveDivisors (q ∷ qs) = (pos 1 ≤ℤ q.div) × HaveDivisors qs

-- a point has the values of the quotients from column k on
abbrev pub AreValues : ℕ → List Rounded → List ℤ → Type 0
AreValues k [] p = Unit {0}
AreValues k (q ∷ qs) p = (slice_index_or p k (pos 0) ≡ rounded_at q p) × AreValues (k + 1) qs p

-- `m divides e` as a row, where the quotient of e by m stands in column k: e - m q = 0
abbrev pub multiple_row : ℕ → ℤ → Affine → Row
multiple_row k m e = Eq (rest_form k (record { form = e; div = m }))

-- its negation, one row: e - m q is at least 1
abbrev pub other_row : ℕ → ℤ → Affine → Row
other_row k m e = Ge (above (rest_form k (record { form = e; div = m })))
