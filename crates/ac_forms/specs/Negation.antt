-- The negation of a row, as conjunctions of which no two have a point in common.
use Rattle.std.specs.Prelude.{◌≡◌, ℕ, ◌+◌, ◌-◌, ℤ, pos, negsuc, neg_ℤ, ◌+ℤ◌, ◌-ℤ◌, List, [], ◌∷◌, ◌++◌, length, replicate}
use Rattle.ac_forms.specs.Fits.{Fits}
use Rattle.ac_forms.specs.Affine.{Affine, scaled, shifted, FormFits}
use Rattle.ac_forms.specs.Rows.{Meets}
use Rattle.ac_forms.specs.declared.conj.Conj.{Conj}
use Rattle.ac_forms.specs.declared.row.Row.{Row}
use Rattle.ac_forms.specs.declared.row.Row.TheVariants.{Eq, Div, Ge}

-- the form plus k times a further column, behind the first n
abbrev pub with_column : ℕ → ℤ → Affine → Affine
with_column n k f = record { konst = f.konst; coefs = (f.coefs ++ replicate (n - length f.coefs) (pos 0)) ++ k ∷ [] }

-- minus the form
abbrev pub opposite : Affine → Affine
opposite = scaled (negsuc 0)

-- not negative where the form is at least 1
abbrev pub above : Affine → Affine
above f = shifted f (negsuc 0)

-- not negative where the form is at most -1
abbrev pub below : Affine → Affine
below f = shifted (opposite f) (negsuc 0)

abbrev pub piece : ℕ → List Row → Conj
piece n rows = record { columns = n; rows = rows }

-- not `f >= 0`: f is at most -1; not `f = 0`: f is at least 1, or at most -1; m doesn't divide f: f less m times a further column lies from 1 to m - 1
abbrev pub negation : ℕ → Row → List Conj
negation n (Eq f) = piece n (Ge (above f) ∷ []) ∷ piece n (Ge (below f) ∷ []) ∷ []
negation n (Div m f) = piece (n + 1) (Ge (with_column n (neg_ℤ m) (above f)) ∷ Ge (with_column n m (shifted (opposite f) (m -ℤ pos 1))) ∷ []) ∷ []
negation n (Ge f) = piece n (Ge (below f) ∷ []) ∷ []

-- the negation is made in `i128`: changes of sign, column by column and the constant last, and then what is added to the constant
abbrev pub NegationFits : Row → Type 0
NegationFits (Eq f) = Fits (f.konst +ℤ negsuc 0) × FormFits (opposite f) × Fits ((opposite f).konst +ℤ negsuc 0)
NegationFits (Div m f) = Fits (f.konst +ℤ negsuc 0) × FormFits (opposite f) × Fits ((opposite f).konst +ℤ (m -ℤ pos 1))
NegationFits (Ge f) = FormFits (opposite f) × Fits ((opposite f).konst +ℤ negsuc 0)

-- the point, with numbers for the conjunction's further columns, meets the conjunction
abbrev pub HasExtension : Conj → List ℤ → Type 0
HasExtension conj p = (more : List ℤ) × (length (p ++ more) ≡ conj.columns) × Meets conj.rows (p ++ more)
