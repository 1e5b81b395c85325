-- A row that is added to the conjunction, and its like to the path.
use Rattle.std.proofs.Common.{◌≡◌, ℕ, zero, suc, ◌+◌, ◌-◌, ◌<◌, ◌≤◌, List, [], ◌∷◌, ◌++◌, length, length-append, Option, Some, None, Bool, true, false, cond, nat_eq, nat_le, nat_lt, slice_get, ◌⊎◌, inl, inr, refl, sym, ap, ◌∙◌, subst, arith}
use Rattle.std.specs.Prelude.{option_map, slice_index_or}
use Rattle.ac_forms.specs.Affine.{Affine}
use Rattle.ac_forms.specs.Rows.{form_of}
use Rattle.ac_forms.specs.declared.conj.Conj.{Conj}
use Rattle.ac_forms.specs.declared.row.Row.{Row}
use Rattle.ac_cert.specs.Rules.{with_row, with_column_row}
use Rattle.ac_cert.specs.StepRows.{IsAt}
use Rattle.ac_claims_plans.specs.declared.embedding.Embedding.{Embedding}
use Rattle.ac_forms.specs.Renaming.{with_form}
use Rattle.ac_claims_plans.proofs.Named.{place_of, named, Renames, Stands, IsShifted}
use Rattle.ac_claims_plans.specs.Embeddings.{row_on}
use Rattle.ac_claims_plans.proofs.Renamings.{IsNext}

some-same : (x y : ℕ) → Some x ≡ Some y → x ≡ y
some-same x y e = cc

get-appended : {X : Type 0} (xs ys : List X) (i : ℕ) (x : X) → slice_get xs i ≡ Some x → slice_get (xs ++ ys) i ≡ Some x
get-appended [] ys i x e = absurd cc
get-appended (y ∷ xs) ys zero x e = e
get-appended (y ∷ xs) ys (suc i) x e = get-appended xs ys i x e

get-last : {X : Type 0} (xs : List X) (x : X) → slice_get (xs ++ x ∷ []) (length xs) ≡ Some x
get-last [] x = refl
get-last (y ∷ xs) x = get-last xs x

-- an item of a longer list is one of the first, or the last
get-pushed : {X : Type 0} (xs : List X) (x y : X) (i : ℕ) → slice_get (xs ++ x ∷ []) i ≡ Some y → (slice_get xs i ≡ Some y) ⊎ ((i ≡ length xs) × (x ≡ y))
get-pushed [] x y zero e = inr (refl, cc)
get-pushed [] x y (suc i) e = absurd cc
get-pushed (z ∷ xs) x y zero e = inl e
get-pushed (z ∷ xs) x y (suc i) e = elim (get-pushed xs x y i e) [ inl h ↦ inl h | inr h ↦ inr (ap (λ (n : ℕ). suc n) h.0, h.1) ]

-- the next row has the path's next place
next-place : (s : Embedding) (n : ℕ) → row_on s (length s.rows + n) ≡ s.next_row + n
next-place s n = by (nat_lt (length s.rows + n) (length s.rows)) (grind arith)
  where
    by : (b : Bool) → b ≡ false → cond b (slice_index_or s.rows (length s.rows + n) 0) (s.next_row + ((length s.rows + n) - length s.rows)) ≡ s.next_row + n
    by true e = absurd cc
    by false e = omega arith

pub place-below : (j : ℕ) (xs : List ℕ) (k : ℕ) → place_of j xs ≡ Some k → k < length xs
place-below j [] k e = absurd cc
place-below j (x ∷ xs) k e = by (nat_eq x j) (place_of j xs) refl (λ i p. place-below j xs i p) e
  where
    by : (b : Bool) (o : Option ℕ) → place_of j xs ≡ o → ((i : ℕ) → place_of j xs ≡ Some i → i < length xs) → cond b (Some 0) (option_map (λ i. suc i) o) ≡ Some k → k < length (x ∷ xs)
    by true o p again e = omega (arith, some-same 0 k e)
    by false None p again e = absurd cc
    by false (Some i) p again e = omega (arith, some-same (suc i) k e, again i p)

-- the next column has the path's next name
pub next-column : (s : Embedding) (c d : Conj) → IsShifted s c d → IsNext (named s) c.columns d.columns
next-column s c d x = record {
  here = here (nat_le s.next_column d.columns) (grind (arith, x.path_columns));
  alone = λ j e. alone j (nat_le s.next_column j) refl e;
}
  where
    here : (b : Bool) → b ≡ true → cond b (Some (length s.columns + (d.columns - s.next_column))) (place_of d.columns s.columns) ≡ Some c.columns
    here true e = ap (λ (z : ℕ). Some z) (omega (arith, x.path_columns, x.columns))
    here false e = absurd cc

    alone : (j : ℕ) (b : Bool) → nat_le s.next_column j ≡ b → cond b (Some (length s.columns + (j - s.next_column))) (place_of j s.columns) ≡ Some c.columns → j ≡ d.columns
    alone j true t e =
        let l : s.next_column ≤ j = grind (arith, t) in
        omega (arith, l, some-same (length s.columns + (j - s.next_column)) c.columns e, x.columns, x.path_columns)
    alone j false t e = absurd (omega (arith, place-below j s.columns c.columns e, x.columns))

-- a row that stood stands still
stands-on : (names : ℕ → Option ℕ) (d : Conj) (more : List Row) (n i : ℕ) (r : Row) → Stands names d i r → Stands names (record { columns = n; rows = d.rows ++ more }) i r
stands-on names d more n i r h = record { form = h.form; at = get-appended d.rows more i (with_form r h.form) h.at; renames = h.renames }

pushed-rows : (s : Embedding) (c d : Conj) (r : Row) (f : Affine) (n m : ℕ) → IsShifted s c d → Renames (named s) (form_of r) f → (i : ℕ) (y : Row) → IsAt (record { columns = n; rows = c.rows ++ r ∷ [] }) i y → Stands (named s) (record { columns = m; rows = d.rows ++ with_form r f ∷ [] }) (row_on s i) y
pushed-rows s c d r f n m x a i y e = elim (get-pushed c.rows r y i e) [
  | inl h ↦ stands-on (named s) d (with_form r f ∷ []) m (row_on s i) y (x.rows i y h)
  | inr h ↦
      let last : row_on s i ≡ length d.rows = ap (row_on s) (h.0 ∙ x.count) ∙ next-place s x.longer ∙ sym x.path_count in
      subst (λ (z : Row). Stands (named s) (record { columns = m; rows = d.rows ++ with_form r f ∷ [] }) (row_on s i) z) h.1 (record { form = f; at = rw last (get-last d.rows (with_form r f)); renames = a })
]

pub shifted-row : (s : Embedding) (c d : Conj) (r : Row) (f : Affine) → IsShifted s c d → Renames (named s) (form_of r) f → IsShifted s (with_row c r) (with_row d (with_form r f))
shifted-row s c d r f x a = record {
  names = x.names;
  wider = x.wider;
  columns = x.columns;
  path_columns = x.path_columns;
  longer = x.longer + 1;
  count = omega (arith, length-append c.rows (r ∷ []), x.count);
  path_count = omega (arith, length-append d.rows (with_form r f ∷ []), x.path_count);
  rows = pushed-rows s c d r f c.columns d.columns x a;
}

pub shifted-column : (s : Embedding) (c d : Conj) (r : Row) (f : Affine) → IsShifted s c d → Renames (named s) (form_of r) f → IsShifted s (with_column_row c r) (with_column_row d (with_form r f))
shifted-column s c d r f x a = record {
  names = x.names;
  wider = x.wider + 1;
  columns = omega (arith, x.columns);
  path_columns = omega (arith, x.path_columns);
  longer = x.longer + 1;
  count = omega (arith, length-append c.rows (r ∷ []), x.count);
  path_count = omega (arith, length-append d.rows (with_form r f ∷ []), x.path_count);
  rows = pushed-rows s c d r f (c.columns + 1) (d.columns + 1) x a;
}
