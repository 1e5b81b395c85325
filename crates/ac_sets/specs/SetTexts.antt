-- The texts of forms, rows, conjunctions and unions. The first columns have the names that are given, the others are q0, q1 and so on.
use Rattle.std.specs.Prelude.{ℕ, zero, suc, ◌+◌, ◌-◌, ◌==◌, ℤ, pos, negsuc, Bool, true, false, List, [], ◌∷◌, ◌++◌, length, codes, unsigned_abs, slice_index_or, nat_lt, if◌then◌else◌}
use Rattle.std.specs.List.{flat_map, join_by}
use Rattle.std.specs.Fmt.{decimal, signed_decimal}
use Rattle.std.specs.Int.Signed.{lt_z}
use Rattle.ac_forms.specs.Affine.{Affine}
use Rattle.ac_forms.specs.declared.conj.Conj.{Conj}
use Rattle.ac_forms.specs.declared.row.Row.{Row}
use Rattle.ac_forms.specs.declared.row.Row.TheVariants.{Eq, Div, Ge}

-- a term of a sum: whether it is negative, and the text of its absolute value
pub record Term : Type 0 where
  pub negative : Bool
  pub size : List ℕ

abbrev pub column_name : List (List ℕ) → ℕ → List ℕ
column_name names k = if nat_lt k (length names) then slice_index_or names k [] else codes "q" ++ decimal (k - length names)

-- a coefficient 1 is not printed
abbrev pub multiple_text : ℕ → List ℕ → List ℕ
multiple_text k name = if k == 1 then name else decimal k ++ codes "*" ++ name

-- the term of a number, none where it is 0
abbrev pub term_of : ℤ → List ℕ → List Term
term_of c size = if unsigned_abs c == 0 then [] else record { negative = lt_z c (pos 0); size = size } ∷ []

-- the terms of the coefficients from column k on
abbrev pub terms_from : List (List ℕ) → ℕ → List ℤ → List Term
terms_from names k [] = []
terms_from names k (c ∷ cs) = term_of c (multiple_text (unsigned_abs c) (column_name names k)) ++ terms_from names (k + 1) cs

abbrev pub first_text : Term → List ℕ
first_text t = (if t.negative then codes "-" else []) ++ t.size

abbrev pub further_text : Term → List ℕ
further_text t = (if t.negative then codes " - " else codes " + ") ++ t.size

-- a sum without terms is 0
abbrev pub sum_text : List Term → List ℕ
sum_text [] = codes "0"
sum_text (t ∷ ts) = first_text t ++ flat_map further_text ts

-- the terms in the order of the columns, then the constant
abbrev pub form_text : List (List ℕ) → Affine → List ℕ
form_text names f = sum_text (terms_from names 0 f.coefs ++ term_of f.konst (decimal (unsigned_abs f.konst)))

abbrev pub row_text : List (List ℕ) → Row → List ℕ
row_text names (Eq f) = form_text names f ++ codes " = 0"
row_text names (Div m f) = (signed_decimal m ++ codes " | ") ++ form_text names f
row_text names (Ge f) = form_text names f ++ codes " >= 0"

abbrev pub rows_text : List (List ℕ) → List Row → List ℕ
rows_text names [] = codes "true"
rows_text names (r ∷ rs) = join_by (row_text names) (codes " and ") (r ∷ rs)

abbrev pub pieces_text : List (List ℕ) → List Conj → List ℕ
pieces_text names [] = codes "false"
pieces_text names (c ∷ cs) = join_by (λ piece. rows_text names piece.rows) (codes " or ") (c ∷ cs)
