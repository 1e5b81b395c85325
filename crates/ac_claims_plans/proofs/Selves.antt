-- A question stands on itself.
use Rattle.std.proofs.Common.{◌≡◌, ℕ, zero, suc, ◌+◌, ◌<◌, ◌≤◌, Bool, true, false, nat_eq, nat_lt, List, [], ◌∷◌, ◌++◌, length, Some, None, slice_get, refl, sym, ap, ◌∙◌, subst, arith, append_assoc, length-append}
use Rattle.std.specs.Prelude.{option_map, Result, Ok, Err, IfOk}
use Rattle.std.specs.declared.alloc.AllocError.{AllocError}
use Rattle.std.specs.List.{range_with_len}
use Rattle.std.proofs.lemmas.List.FromFn.{length-range_with_len}
use Rattle.std.proofs.lemmas.Bool.{ne_eqb}
use borrow.Author.Tests.{ltb-true, ltb-false}
use Rattle.ac_forms.specs.Affine.{Affine, coef}
use Rattle.ac_forms.specs.Renaming.{AreColumns, IsApartFrom, AreDistinct, with_form}
use Rattle.ac_forms.specs.Rows.{form_of, AreRowsOver, IsWellMade}
use Rattle.ac_forms.specs.declared.conj.Conj.{Conj}
use Rattle.ac_forms.specs.declared.row.Row.{Row}
use Rattle.ac_forms.specs.declared.row.Row.TheVariants.{Eq, Div, Ge}
use Rattle.ac_claims_plans.specs.Embeddings.{itself}
use Rattle.ac_claims_plans.specs.QuestionEmbedding.{Stand, StandsOn}
use Rattle.ac_claims_plans.specs.declared.embedding.Embedding.{Embedding}
use Rattle.ac_claims_plans.proofs.Forms.{listed-renames}
use Rattle.ac_claims_plans.proofs.Named.{place_of, AreNames, coef_of, Renames}
use Rattle.ac_claims_plans.proofs.Numbers.{get-past}
use Rattle.ac_claims_plans.proofs.Views.{names-of}

same-number : (i j : ℕ) → i ≡ j → nat_eq i j ≡ true
same-number i j e = grind (arith, e)

place-here : (i n k j : ℕ) → k < n → j ≡ i + k → place_of j (range_with_len i n) ≡ Some k
place-here i zero k j h e = absurd (omega arith)
place-here i (suc n) zero j h e = rw (same-number i j (omega (arith, e))) refl
place-here i (suc n) (suc k) j h e =
    rw (ne_eqb i j (λ f. omega (arith, e, f))) (ap (option_map (λ (x : ℕ). suc x)) (place-here (i + 1) n k j (omega arith) (omega (arith, e))))

place-past : (i n j : ℕ) → i + n ≤ j → place_of j (range_with_len i n) ≡ None
place-past i zero j h = refl
place-past i (suc n) j h = rw (ne_eqb i j (λ f. omega (arith, f, h))) (ap (option_map (λ (x : ℕ). suc x)) (place-past (i + 1) n j (omega (arith, h))))

pub range-columns : (first count n : ℕ) → first + count ≤ n → AreColumns n (range_with_len first count)
range-columns first zero n l = tt
range-columns first (suc count) n l = (omega (arith, l), range-columns (first + 1) count n (omega (arith, l)))

pub range-apart : (j first count : ℕ) → j < first → IsApartFrom j (range_with_len first count)
range-apart j first zero l = tt
range-apart j first (suc count) l = ((λ e. omega (arith, l, e)), range-apart j (first + 1) count (omega (arith, l)))

pub range-distinct : (first count : ℕ) → AreDistinct (range_with_len first count)
range-distinct first zero = tt
range-distinct first (suc count) = (range-apart first (first + 1) count (omega arith), range-distinct (first + 1) count)

renames-itself : (n : ℕ) (f : Affine) → length f.coefs ≤ n → Renames (λ j. place_of j (range_with_len 0 n)) f f
renames-itself n f h = record { konst = refl; coefs = λ j. by j (nat_lt j n) refl }
  where
    by : (j : ℕ) (b : Bool) → nat_lt j n ≡ b → coef j f ≡ coef_of (place_of j (range_with_len 0 n)) f
    by j true e = rw (place-here 0 n j j (ltb-true j n e) (omega arith)) refl
    by j false e =
        let l : n ≤ j = ltb-false j n e in
        rw (place-past 0 n j (omega (arith, l))) (get-past f.coefs j (omega (arith, h, l)))

with-own : (r : Row) → with_form r (form_of r) ≡ r
with-own (Eq f) = refl
with-own (Div m f) = refl
with-own (Ge f) = refl

at-front : (front rs : List Row) (r : Row) (i : ℕ) → length front ≡ i → slice_get (front ++ r ∷ rs) i ≡ Some r
at-front [] rs r zero e = refl
at-front [] rs r (suc i) e = absurd (omega (arith, e))
at-front (x ∷ front) rs r zero e = absurd (omega (arith, e))
at-front (x ∷ front) rs r (suc i) e = at-front front rs r i (omega (arith, e))

stand-itself : (n : ℕ) (path : Conj) (front rs : List Row) (i : ℕ) → path.rows ≡ front ++ rs → length front ≡ i → AreRowsOver n rs → Stand (range_with_len 0 n) path rs (range_with_len i (length rs))
stand-itself n path front [] i e l h = tt
stand-itself n path front (r ∷ rs) i e l h =
    let far : path.rows ≡ (front ++ r ∷ []) ++ rs = e ∙ sym (append_assoc front (r ∷ []) rs) in
    let longer : length (front ++ r ∷ []) ≡ i + 1 = omega (arith, length-append front (r ∷ []), l) in
    let names : AreNames n (range_with_len 0 n) = names-of n (range_with_len 0 n) (range-columns 0 n n (omega arith)) (range-distinct 0 n) in (
      record { form = form_of r; at = rw (e, with-own r) (at-front front rs r i l); is = listed-renames n (range_with_len 0 n) (form_of r) (form_of r) names (renames-itself n (form_of r) h.0.0) },
      stand-itself n path (front ++ r ∷ []) rs (i + 1) far longer h.1,
    )

pub stands-itself : (c : Conj) → IsWellMade c → StandsOn (itself c.columns (length c.rows)) c c
stands-itself c w = record {
  columns = length-range_with_len 0 c.columns;
  among = range-columns 0 c.columns c.columns (omega arith);
  distinct = range-distinct 0 c.columns;
  rows = stand-itself c.columns c [] c.rows 0 refl refl w;
  path_columns = refl;
  path_rows = refl;
}

pub itself_result : (res : Result Embedding AllocError) (columns rows : ℕ) → IfOk res (λ s. s ≡ itself columns rows) → IfOk res (λ s. (c : Conj) → IsWellMade c → c.columns ≡ columns → length c.rows ≡ rows → StandsOn s c c)
itself_result (Err e) columns rows h = tt
itself_result (Ok s) columns rows h = λ c w k l.
    let same : itself c.columns (length c.rows) ≡ s = (λ i. itself (k i) (l i)) ∙ sym h in
    subst (λ (x : Embedding). StandsOn x c c) same (stands-itself c w)
