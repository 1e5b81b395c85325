-- The coordinates of instances among further columns: the parameters stand first, and the coordinates of each instance from
-- a column of its own on.
use Rattle.std.specs.Prelude.{ℕ, ◌+◌, ◌≤◌, ◌↔◌, ◌≤ℤ◌, ◌<ℤ◌, ℤ, pos, negsuc, List, [], ◌∷◌, length, map}
use Rattle.std.specs.List.{AllByRecursion, range_with_len}
use Rattle.ac_forms.specs.Affine.{Affine, FormFits, column_form, combined, shifted}
use Rattle.ac_forms.specs.Fits.{Fits}
use Rattle.ac_forms.specs.Rows.{Meets}
use Rattle.ac_forms.specs.declared.row.Row.{Row}
use Rattle.ac_forms.specs.declared.row.Row.TheVariants.{Ge}
use Rattle.ac_poly.specs.LevelRows.{numbers}
use Rattle.ac_poly.specs.ModelMeaning.{values_at}

-- no form has a coefficient past that many columns
abbrev pub AreOver : ℕ → List Affine → Type 0
AreOver columns = AllByRecursion (λ f. length f.coefs ≤ columns)

-- the forms of so many coordinates, from column k on
abbrev pub coordinate_forms : ℕ → ℕ → List Affine
coordinate_forms k count = map (λ j. column_form (j + 1) j) (range_with_len k count)

-- an extent less the coordinate in column k, less 1
abbrev pub room : ℕ → Affine → Affine
room k e = shifted (combined (pos 1) e (negsuc 0) (column_form (k + 1) k)) (negsuc 0)

-- the elements of an array with these extents: each coordinate, from column k on, is at least 0 and less than its extent
abbrev pub element_rows : ℕ → List Affine → List Row
element_rows k [] = []
element_rows k (e ∷ es) = Ge (column_form (k + 1) k) ∷ (Ge (room k e) ∷ element_rows (k + 1) es)

-- they are made in `i128`: an extent less its coordinate, and that less 1
abbrev pub CanBound : ℕ → List Affine → Type 0
CanBound k [] = Unit {0}
CanBound k (e ∷ es) = (FormFits (combined (pos 1) e (negsuc 0) (column_form (k + 1) k)) × Fits ((room k e).konst)) × CanBound (k + 1) es

-- the numbers lie from 0 to below these
abbrev pub AreBelow : List ℤ → List ℤ → Type 0
AreBelow [] ys = Unit {0}
AreBelow (x ∷ xs) [] = Unit {0}
AreBelow (x ∷ xs) (y ∷ ys) = (pos 0 ≤ℤ x) × (x <ℤ y) × AreBelow xs ys

-- the rows of elements hold exactly where the coordinates lie from 0 to below the extents
abbrev pub ElementRowsHold : Type 0
ElementRowsHold = (k : ℕ) (extents : List Affine) (p : List ℤ) → Meets (element_rows k extents) p ↔ AreBelow (numbers k (length extents) p) (values_at p extents)
