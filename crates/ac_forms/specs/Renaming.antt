-- Forms and rows among other columns: column i goes to the i-th of a list of columns.
use Rattle.std.specs.Prelude.{◌≡◌, ℕ, zero, suc, ◌<◌, ℤ, pos, ◌+ℤ◌, List, [], ◌∷◌, map, slice_index_or, Bool, true, ◌&&◌, cond, Option, Some, None, option_map, option_and_then}
use Rattle.ac_forms.specs.Affine.{Affine}
use Rattle.ac_forms.specs.Fits.{Fits, fits}
use Rattle.ac_forms.specs.Rows.{form_of}
use Rattle.ac_forms.specs.declared.row.Row.{Row}
use Rattle.ac_forms.specs.declared.row.Row.TheVariants.{Eq, Div, Ge}

-- the list with c more at place k; zeros stand up to there
abbrev pub add_at : ℕ → ℤ → List ℤ → List ℤ
add_at zero c [] = c ∷ []
add_at zero c (x ∷ xs) = (x +ℤ c) ∷ xs
add_at (suc k) c [] = pos 0 ∷ add_at k c []
add_at (suc k) c (x ∷ xs) = x ∷ add_at k c xs

-- the sum of all coefficients, each at its column; one past the columns is left out
abbrev pub renamed_coefs : List ℕ → List ℤ → List ℤ
renamed_coefs [] cs = []
renamed_coefs (k ∷ ks) [] = []
renamed_coefs (k ∷ ks) (c ∷ cs) = add_at k c (renamed_coefs ks cs)

-- the form whose column i is the i-th of the columns
abbrev pub renamed : List ℕ → Affine → Affine
renamed ks f = record { konst = f.konst; coefs = renamed_coefs ks f.coefs }

-- the row with another form
abbrev pub with_form : Row → Affine → Row
with_form (Eq f) g = Eq g
with_form (Div m f) g = Div m g
with_form (Ge f) g = Ge g

abbrev pub renamed_row : List ℕ → Row → Row
renamed_row ks r = with_form r (renamed ks (form_of r))

-- the numbers of a point in these columns, 0 where it has none
abbrev pub picked : List ℕ → List ℤ → List ℤ
picked ks p = map (λ k. slice_index_or p k (pos 0)) ks

-- the columns are among the first n
abbrev pub AreColumns : ℕ → List ℕ → Type 0
AreColumns n [] = Unit {0}
AreColumns n (k ∷ ks) = (k < n) × AreColumns n ks

-- the column is none of the others, and no column stands twice
abbrev pub IsApartFrom : ℕ → List ℕ → Type 0
IsApartFrom j [] = Unit {0}
IsApartFrom j (k ∷ ks) = (¬ (j ≡ k)) × IsApartFrom j ks

abbrev pub AreDistinct : List ℕ → Type 0
AreDistinct [] = Unit {0}
AreDistinct (k ∷ ks) = IsApartFrom k ks × AreDistinct ks

-- what goes to one column stays in `i128` there, added from the last column on; so it is wherever no column stands twice
abbrev pub SumsFit : List ℕ → List ℤ → Type 0
SumsFit [] cs = Unit {0}
SumsFit (k ∷ ks) [] = Unit {0}
SumsFit (k ∷ ks) (c ∷ cs) = SumsFit ks cs × Fits (slice_index_or (renamed_coefs ks cs) k (pos 0) +ℤ c)

abbrev pub CanRename : List ℕ → Affine → Type 0
CanRename ks f = SumsFit ks f.coefs

abbrev pub CanRenameAll : List ℕ → List Row → Type 0
CanRenameAll ks [] = Unit {0}
CanRenameAll ks (r ∷ rs) = CanRename ks (form_of r) × CanRenameAll ks rs

-- the same as tests, and what is made where they hold
abbrev pub sums_fit : List ℕ → List ℤ → Bool
sums_fit [] cs = true
sums_fit (k ∷ ks) [] = true
sums_fit (k ∷ ks) (c ∷ cs) = sums_fit ks cs && fits (slice_index_or (renamed_coefs ks cs) k (pos 0) +ℤ c)

abbrev pub renaming : List ℕ → Affine → Option Affine
renaming ks f = cond (sums_fit ks f.coefs) (Some (renamed ks f)) None

abbrev pub row_renaming : List ℕ → Row → Option Row
row_renaming ks r = option_map (with_form r) (renaming ks (form_of r))

abbrev pub rows_renaming : List ℕ → List Row → Option (List Row)
rows_renaming ks [] = Some []
rows_renaming ks (r ∷ rs) = option_and_then (λ s. option_map (λ ss. s ∷ ss) (rows_renaming ks rs)) (row_renaming ks r)
