-- Rows that stand on a path stand on when it goes on; and so do further rows, over further columns.
use Rattle.std.proofs.Common.{◌≡◌, ℕ, zero, suc, ◌+◌, ◌≤◌, ℤ, List, [], ◌∷◌, ◌++◌, length, length-append, map, Some, slice_get, refl, sym, ap, ◌∙◌, subst, arith}
use Rattle.std.specs.List.{range_with_len}
use Rattle.std.proofs.lemmas.List.FromFn.{length-range_with_len}
use Rattle.ac_forms.specs.Affine.{Affine}
use Rattle.ac_forms.specs.RowColumns.{trimmed}
use Rattle.ac_forms.specs.Renaming.{add_at, renamed_coefs, renamed, AreColumns, IsApartFrom, AreDistinct, with_form}
use Rattle.ac_forms.specs.Rows.{form_of, AreRowsOver, IsWellMade}
use Rattle.ac_forms.specs.declared.conj.Conj.{Conj}
use Rattle.ac_forms.specs.declared.row.Row.{Row}
use Rattle.ac_cert.specs.Apart.{IsOnto}
use Rattle.ac_claims_plans.proofs.Selves.{range-columns, range-apart, range-distinct}
use Rattle.ac_claims_plans.specs.BranchSides.{side_of, on_side}
use Rattle.ac_claims_plans.specs.QuestionEmbedding.{StandsAt, Stand, StandsOn}
use Rattle.ac_claims_plans.specs.declared.branching.Part.{Part}
use Rattle.ac_claims_plans.specs.declared.embedding.Embedding.{Embedding}

-- ---- columns

pub columns-wider : (n m : ℕ) (xs : List ℕ) → n ≤ m → AreColumns n xs → AreColumns m xs
columns-wider n m [] l a = tt
columns-wider n m (x ∷ xs) l a = (omega (arith, a.0, l), columns-wider n m xs l a.1)

pub columns-both : (n : ℕ) (xs ys : List ℕ) → AreColumns n xs → AreColumns n ys → AreColumns n (xs ++ ys)
columns-both n [] ys a b = b
columns-both n (x ∷ xs) ys a b = (a.0, columns-both n xs ys a.1 b)

apart-both : (j : ℕ) (xs ys : List ℕ) → IsApartFrom j xs → IsApartFrom j ys → IsApartFrom j (xs ++ ys)
apart-both j [] ys a b = b
apart-both j (x ∷ xs) ys a b = (a.0, apart-both j xs ys a.1 b)

pub distinct-further : (n : ℕ) (xs : List ℕ) (count : ℕ) → AreColumns n xs → AreDistinct xs → AreDistinct (xs ++ range_with_len n count)
distinct-further n [] count a d = range-distinct n count
distinct-further n (x ∷ xs) count a d = (apart-both x xs (range_with_len n count) d.0 (range-apart x n count a.0), distinct-further n xs count a.1 d.1)

-- ---- rows that stand

renamed-more : (xs ys : List ℕ) (cs : List ℤ) → length cs ≤ length xs → renamed_coefs (xs ++ ys) cs ≡ renamed_coefs xs cs
renamed-more [] [] [] l = refl
renamed-more [] (y ∷ ys) [] l = refl
renamed-more [] ys (c ∷ cs) l = absurd (omega (arith, l))
renamed-more (x ∷ xs) ys [] l = refl
renamed-more (x ∷ xs) ys (c ∷ cs) l = ap (add_at x c) (renamed-more xs ys cs (omega (arith, l)))

pub form-more : (xs ys : List ℕ) (f : Affine) → length f.coefs ≤ length xs → trimmed (renamed xs f) ≡ trimmed (renamed (xs ++ ys) f)
form-more xs ys f l = ap (λ (cs : List ℤ). trimmed (record { konst = f.konst; coefs = cs })) (sym (renamed-more xs ys f.coefs l))

get-appended : {X : Type 0} (xs ys : List X) (i : ℕ) (x : X) → slice_get xs i ≡ Some x → slice_get (xs ++ ys) i ≡ Some x
get-appended [] ys i x e = absurd cc
get-appended (y ∷ xs) ys zero x e = e
get-appended (y ∷ xs) ys (suc i) x e = get-appended xs ys i x e

-- over further columns, on a path that goes on
pub stands-more : (xs ys : List ℕ) (d e : Conj) (i : ℕ) (r : Row) → IsOnto d e → length (form_of r).coefs ≤ length xs → StandsAt xs d i r → StandsAt (xs ++ ys) e i r
stands-more xs ys d e i r o l a = record { form = a.form; at = rw o.rows (get-appended d.rows o.more i (with_form r a.form) a.at); is = a.is ∙ form-more xs ys (form_of r) l }

pub stand-more : (xs ys : List ℕ) (d e : Conj) (rs : List Row) (is : List ℕ) → IsOnto d e → AreRowsOver (length xs) rs → Stand xs d rs is → Stand (xs ++ ys) e rs is
stand-more xs ys d e [] [] o w h = tt
stand-more xs ys d e [] (i ∷ is) o w h = absurd h
stand-more xs ys d e (r ∷ rs) [] o w h = absurd h
stand-more xs ys d e (r ∷ rs) (i ∷ is) o w h = (stands-more xs ys d e i r o w.0.0 h.0, stand-more xs ys d e rs is o w.1 h.1)

pub stand-both : (xs : List ℕ) (d : Conj) (rs qs : List Row) (is js : List ℕ) → Stand xs d rs is → Stand xs d qs js → Stand xs d (rs ++ qs) (is ++ js)
stand-both xs d [] qs [] js h k = k
stand-both xs d [] qs (i ∷ is) js h k = absurd h
stand-both xs d (r ∷ rs) qs [] js h k = absurd h
stand-both xs d (r ∷ rs) qs (i ∷ is) js h k = (h.0, stand-both xs d rs qs is js h.1 k)

-- the rows of a side stand with the others
pub view-side : (s : Embedding) (p : Part) (c d e : Conj) → IsWellMade c → StandsOn s c d → IsOnto d e → e.columns ≡ s.next_column + p.path_columns → length e.rows ≡ s.next_row + p.path_rows → p.question_columns ≤ p.path_columns
    → Stand (s.columns ++ range_with_len s.next_column p.question_columns) e p.rows (map (λ k. s.next_row + k) p.places) → StandsOn (on_side s p) (side_of c p) e
view-side s p c d e w v o n m l h = record {
  columns = omega (arith, length-append s.columns (range_with_len s.next_column p.question_columns), length-range_with_len s.next_column p.question_columns, v.columns);
  among = columns-both (s.next_column + p.path_columns) s.columns (range_with_len s.next_column p.question_columns) (columns-wider s.next_column (s.next_column + p.path_columns) s.columns (omega arith) v.among) (range-columns s.next_column p.question_columns (s.next_column + p.path_columns) (omega (arith, l)));
  distinct = distinct-further s.next_column s.columns p.question_columns v.among v.distinct;
  rows = stand-both (s.columns ++ range_with_len s.next_column p.question_columns) e c.rows p.rows s.rows (map (λ k. s.next_row + k) p.places)
      (stand-more s.columns (range_with_len s.next_column p.question_columns) d e c.rows s.rows o (subst (λ (k : ℕ). AreRowsOver k c.rows) (sym v.columns) w) v.rows) h;
  path_columns = n;
  path_rows = m;
}
