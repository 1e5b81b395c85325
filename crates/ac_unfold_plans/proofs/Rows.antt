-- Rows that stand among the rows of a question, among other columns.
use Rattle.std.proofs.Common.{◌≡◌, ℕ, zero, suc, ◌||◌, List, [], ◌∷◌, Bool, true, false, refl, ap, ◌∙◌, Option, Some, None, slice_get}
use Rattle.std.specs.Prelude.{option_map}
use Rattle.ac_forms.specs.Affine.{Affine}
use Rattle.ac_forms.specs.NormalForm.{is_absurd}
use Rattle.ac_forms.specs.NormalRows.{normal_row}
use Rattle.ac_forms.specs.FormOrder.{row_eq}
use Rattle.ac_forms.specs.Renaming.{with_form}
use Rattle.ac_forms.specs.Rows.{form_of}
use Rattle.ac_forms.specs.Standing.{is_among, normal_of, kept_onto, kept_rows, is_left_among, stands}
use Rattle.ac_forms.specs.RangeTests.{normal_fits}
use Rattle.ac_forms.specs.declared.normal.NormalRow.{NormalRow}
use Rattle.ac_forms.specs.declared.normal.NormalRow.TheVariants.{Kept, Dropped, Absurd}
use Rattle.ac_forms.specs.declared.row.Row.{Row}
use Rattle.ac_forms.proofs.Standings.{row_same, row_itself}
use Rattle.ac_unfold_plans.proofs.Normals.{IsAmong, among_columns, left_among_columns, normal_of-among}

-- ---- the row that a normal form is of

record HasNormal (rows : List Row) (s : Row) : Type 0 where
  place : ℕ
  row : Row
  at : slice_get rows place ≡ Some row
  normal : normal_of row ≡ Some (Kept s)

one-more : (x : Row) (rows : List Row) (s : Row) → HasNormal rows s → HasNormal (x ∷ rows) s
one-more x rows s h = record { place = suc h.place; row = h.row; at = h.at; normal = h.normal }

has-normal : (s : Row) (rows : List Row) → is_among s (kept_rows rows) ≡ true → HasNormal rows s
has-normal s [] e = absurd cc
has-normal s (x ∷ xs) e = by (normal_of x) refl e (λ h. one-more x xs s (has-normal s xs h))
  where
    here : (k : Row) → normal_of x ≡ Some (Kept k) → (b : Bool) → row_eq k s ≡ b → (b || is_among s (kept_rows xs)) ≡ true → (is_among s (kept_rows xs) ≡ true → HasNormal (x ∷ xs) s) → HasNormal (x ∷ xs) s
    here k n true i h next = record { place = 0; row = x; at = refl; normal = n ∙ ap (λ r. Some (Kept r)) (row_same k s i) }
    here k n false i h next = next h

    by : (o : Option NormalRow) → normal_of x ≡ o → is_among s (kept_onto o (kept_rows xs)) ≡ true → (is_among s (kept_rows xs) ≡ true → HasNormal (x ∷ xs) s) → HasNormal (x ∷ xs) s
    by (Some (Kept k)) n h next = here k n (row_eq k s) refl h next
    by (Some Dropped) n h next = next h
    by (Some Absurd) n h next = next h
    by None n h next = next h

among-front : (s : Row) (rows : List Row) → is_among s (s ∷ rows) ≡ true
among-front s rows = rw (row_itself s) refl

among-onto : (s : Row) (o : Option NormalRow) (rows : List Row) → is_among s rows ≡ true → is_among s (kept_onto o rows) ≡ true
among-onto s (Some (Kept k)) rows e = by (row_eq k s)
  where
    by : (b : Bool) → (b || is_among s rows) ≡ true
    by true = refl
    by false = e
among-onto s (Some Dropped) rows e = e
among-onto s (Some Absurd) rows e = e
among-onto s None rows e = e

kept-among : (rows : List Row) (i : ℕ) (x s : Row) → slice_get rows i ≡ Some x → normal_of x ≡ Some (Kept s) → is_among s (kept_rows rows) ≡ true
kept-among [] i x s e n = absurd cc
kept-among (y ∷ ys) zero x s e n = let k : y ≡ x = cc in rw (k, n) (among-front s (kept_rows ys))
kept-among (y ∷ ys) (suc i) x s e n = among-onto s (normal_of y) (kept_rows ys) (kept-among ys i x s e n)

-- ---- a row among other columns

-- the rows have the row, among these columns and whatever zeros stand at its end
pub record HasRow (ks : List ℕ) (rows : List Row) (r : Row) : Type 0 where
  pub place : ℕ
  pub form : Affine
  pub at : slice_get rows place ≡ Some (with_form r form)
  pub is : IsAmong ks (form_of r) form

-- the row stands among rows where all rows are that it stands among
pub stands-among-columns : (ks : List ℕ) (rows path : List Row) → ((i : ℕ) (x : Row) → slice_get rows i ≡ Some x → HasRow ks path x) → (r : Row) (g : Affine) → IsAmong ks (form_of r) g → stands rows r ≡ true → stands path (with_form r g) ≡ true
stands-among-columns ks rows path all r g a e = rw (normal_of-among ks r g a) (by (normal_of r) e)
  where
    there : (s : Row) → HasNormal rows s → is_among (among_columns ks s) (kept_rows path) ≡ true
    there s h =
        let p = all h.place h.row h.at in
        kept-among path p.place (with_form h.row p.form) (among_columns ks s) p.at (normal_of-among ks h.row p.form p.is ∙ ap (option_map (left_among_columns ks)) h.normal)

    by : (o : Option NormalRow) → is_left_among o (kept_rows rows) ≡ true → is_left_among (option_map (left_among_columns ks) o) (kept_rows path) ≡ true
    by (Some (Kept s)) h = there s (has-normal s rows h)
    by (Some Dropped) h = refl
    by (Some Absurd) h = absurd cc
    by None h = absurd cc

-- a row that is there stands, where it has a normal form in `i128` that isn't absurd
pub stands-there : (ks : List ℕ) (path : List Row) (r : Row) (g : Affine) → HasRow ks path r → IsAmong ks (form_of r) g → normal_fits r ≡ true → is_absurd (normal_row r) ≡ false → stands path (with_form r g) ≡ true
stands-there ks path r g h a f n = rw (normal_of-among ks r g a, f) (by (normal_row r) refl n)
  where
    normal : normal_of (with_form r h.form) ≡ Some (left_among_columns ks (normal_row r))
    normal = normal_of-among ks r h.form h.is ∙ rw f refl

    by : (o : NormalRow) → normal_row r ≡ o → is_absurd o ≡ false → is_left_among (Some (left_among_columns ks o)) (kept_rows path) ≡ true
    by (Kept s) e k = kept-among path h.place (with_form r h.form) (among_columns ks s) h.at (normal ∙ ap (λ o. Some (left_among_columns ks o)) e)
    by Dropped e k = refl
    by Absurd e k = absurd cc
