-- The order of forms, by coefficients column by column, a missing one being 0, then by the constant; and the order of rows.
use Rattle.std.specs.Prelude.{ℕ, ℤ, pos, List, [], ◌∷◌, length, Bool, nat_eq}
use Rattle.std.specs.declared.cmp.Ordering.{Ordering}
use Rattle.std.specs.declared.cmp.Ordering.TheVariants.{Equal}
use Rattle.std.specs.Ordering.{int_cmp, int_eq, nat_cmp, on, then_cmp, ordering_then, eq_of_both}
use Rattle.std.specs.Cmp.Lexicographic.{pointwise}
use Rattle.ac_forms.specs.Affine.{Affine}
use Rattle.ac_forms.specs.Rows.{form_of}
use Rattle.ac_forms.specs.declared.row.Row.{Row}
use Rattle.ac_forms.specs.declared.row.Row.TheVariants.{Eq, Div, Ge}

-- the first column decides in which the lists differ; a list that ends first stands for zeros
abbrev pub columns_cmp : List ℤ → List ℤ → Ordering
columns_cmp [] [] = Equal
columns_cmp [] (y ∷ ys) = ordering_then (int_cmp (pos 0) y) (columns_cmp [] ys)
columns_cmp (x ∷ xs) [] = ordering_then (int_cmp x (pos 0)) (columns_cmp xs [])
columns_cmp (x ∷ xs) (y ∷ ys) = ordering_then (int_cmp x y) (columns_cmp xs ys)

-- by coefficients, then by the constant; forms that differ only in zeros at the end stand in the order of their lengths
abbrev pub form_cmp : Affine → Affine → Ordering
form_cmp = then_cmp (on (λ f. f.coefs) columns_cmp) (then_cmp (on (λ f. f.konst) int_cmp) (on (λ f. length f.coefs) nat_cmp))

-- the same coefficients and the same constant
abbrev pub form_eq : Affine → Affine → Bool
form_eq = eq_of_both (on (λ f. f.coefs) (pointwise int_eq)) (on (λ f. f.konst) int_eq)

-- the kinds of rows: `Eq`, then `Div`, then `Ge`
abbrev pub kind_of : Row → ℕ
kind_of (Eq f) = 0
kind_of (Div m f) = 1
kind_of (Ge f) = 2

-- the modulus, 0 where a row has none
abbrev pub modulus_of : Row → ℤ
modulus_of (Eq f) = pos 0
modulus_of (Div m f) = m
modulus_of (Ge f) = pos 0

-- by kind, then by modulus, then by form
abbrev pub row_cmp : Row → Row → Ordering
row_cmp = then_cmp (on kind_of nat_cmp) (then_cmp (on modulus_of int_cmp) (on form_of form_cmp))

abbrev pub row_eq : Row → Row → Bool
row_eq = eq_of_both (on kind_of nat_eq) (eq_of_both (on modulus_of int_eq) (on form_of form_eq))
