-- The form on the path: each coefficient stands at its column's place.
use Rattle.std.proofs.Common.{◌≡◌, ℕ, zero, suc, ◌+◌, ◌-◌, ◌<◌, ◌≤◌, ℤ, pos, ◌+ℤ◌, List, [], ◌∷◌, length, map, get_or, Option, Some, None, Bool, true, false, cond, nat_eq, nat_le, nat_lt, refl, sym, ap, ◌∙◌, arith}
use Rattle.std.specs.Prelude.{option_map, slice_index_or}
use Rattle.std.specs.List.{range_with_len}
use Rattle.std.proofs.lemmas.Int.{ints}
use borrow.Author.Tests.{eqb-true, eqb-false}
use Rattle.ac_forms.specs.Affine.{Affine}
use Rattle.ac_forms.specs.RowColumns.{trimmed}
use Rattle.ac_forms.specs.NormalRows.{trim}
use Rattle.ac_forms.specs.Renaming.{add_at, renamed_coefs, renamed, AreColumns}
use Rattle.ac_forms.proofs.Renamings.{form-within}
use Rattle.ac_claims_plans.specs.Embeddings.{column_on, columns_on, moved_form}
use Rattle.ac_claims_plans.specs.declared.embedding.Embedding.{Embedding}
use Rattle.ac_claims_plans.proofs.Named.{place_of, AreNames, named, coef_of, Renames}
use Rattle.ac_claims_plans.proofs.Numbers.{get-trim, trim-short, get-past}

some-same : (x y : ℕ) → Some x ≡ Some y → x ≡ y
some-same x y e = cc

-- ---- a coefficient added at a column

pub get-added : (k : ℕ) (c : ℤ) (xs : List ℤ) → get_or (add_at k c xs) k (pos 0) ≡ get_or xs k (pos 0) +ℤ c
get-added zero c [] = omega (arith, ints)
get-added zero c (x ∷ xs) = refl
get-added (suc k) c [] = get-added k c [] ∙ ap (λ z. z +ℤ c) (nothing k)
  where
    nothing : (k : ℕ) → get_or [] k (pos 0) ≡ pos 0
    nothing zero = refl
    nothing (suc k) = refl
get-added (suc k) c (x ∷ xs) = get-added k c xs

pub get-beside : (k : ℕ) (c : ℤ) (xs : List ℤ) (j : ℕ) → (j ≡ k → ⊥) → get_or (add_at k c xs) j (pos 0) ≡ get_or xs j (pos 0)
get-beside zero c [] zero n = absurd (n refl)
get-beside zero c [] (suc zero) n = refl
get-beside zero c [] (suc (suc j)) n = refl
get-beside zero c (x ∷ xs) zero n = absurd (n refl)
get-beside zero c (x ∷ xs) (suc j) n = refl
get-beside (suc k) c [] zero n = refl
get-beside (suc k) c [] (suc j) n = get-beside k c [] j (λ e. n (ap (λ (i : ℕ). suc i) e)) ∙ nothing j
  where
    nothing : (j : ℕ) → get_or [] j (pos 0) ≡ pos 0
    nothing zero = refl
    nothing (suc j) = refl
get-beside (suc k) c (x ∷ xs) zero n = refl
get-beside (suc k) c (x ∷ xs) (suc j) n = get-beside k c xs j (λ e. n (ap (λ (i : ℕ). suc i) e))

-- ---- which column has a column of the path

pub place-there : (j : ℕ) (xs : List ℕ) (k : ℕ) → place_of j xs ≡ Some k → (k < length xs) × (get_or xs k 0 ≡ j)
place-there j [] k e = absurd cc
place-there j (x ∷ xs) k e = by (nat_eq x j) (place_of j xs) k refl refl (λ i p. place-there j xs i p) e
  where
    by : (b : Bool) (o : Option ℕ) (k : ℕ) → nat_eq x j ≡ b → place_of j xs ≡ o → ((i : ℕ) → place_of j xs ≡ Some i → (i < length xs) × (get_or xs i 0 ≡ j)) → cond b (Some 0) (option_map (λ i. suc i) o) ≡ Some k → (k < length (x ∷ xs)) × (get_or (x ∷ xs) k 0 ≡ j)
    by true o zero t p again e = (omega arith, eqb-true x j t)
    by true o (suc k) t p again e = absurd cc
    by false None k t p again e = absurd cc
    by false (Some i) zero t p again e = absurd cc
    by false (Some i) (suc k) t p again e =
        let same : i ≡ k = cc in
        let r = again i p in
        (omega (arith, r.0, same), ap (λ (n : ℕ). get_or xs n 0) (sym same) ∙ r.1)

-- a name is one of the path's columns, and stands once
pub name-below : (n : ℕ) (xs : List ℕ) (k : ℕ) → AreNames n xs → k < length xs → get_or xs k 0 < n
name-below n [] k a l = absurd (omega (arith, l))
name-below n (x ∷ xs) zero a l = a.0
name-below n (x ∷ xs) (suc k) a l = name-below n xs k a.2 (omega (arith, l))

place-gone : (j : ℕ) (xs : List ℕ) (k : ℕ) → place_of j xs ≡ None → k < length xs → get_or xs k 0 ≡ j → ⊥
place-gone j [] k e l h = absurd (omega (arith, l))
place-gone j (x ∷ xs) k e l h = by (nat_eq x j) (place_of j xs) k refl refl (λ i p m g. place-gone j xs i p m g) e l h
  where
    by : (b : Bool) (o : Option ℕ) (k : ℕ) → nat_eq x j ≡ b → place_of j xs ≡ o → ((i : ℕ) → place_of j xs ≡ None → i < length xs → get_or xs i 0 ≡ j → ⊥) → cond b (Some 0) (option_map (λ i. suc i) o) ≡ None → k < length (x ∷ xs) → get_or (x ∷ xs) k 0 ≡ j → ⊥
    by true o k t p again e l h = absurd cc
    by false (Some i) k t p again e l h = absurd cc
    by false None zero t p again e l h = eqb-false x j t h
    by false None (suc k) t p again e l h = again k p (omega (arith, l)) h

pub place-is : (n : ℕ) (xs : List ℕ) (k : ℕ) → AreNames n xs → k < length xs → place_of (get_or xs k 0) xs ≡ Some k
place-is n [] k a l = absurd (omega (arith, l))
place-is n (x ∷ xs) zero a l = rw (same x) refl
  where
    same : (x : ℕ) → nat_eq x x ≡ true
    same x = grind arith
place-is n (x ∷ xs) (suc k) a l =
    let m : k < length xs = omega (arith, l) in
    by (nat_eq x (get_or xs k 0)) refl (place-is n xs k a.2 m) m
  where
    by : (b : Bool) → nat_eq x (get_or xs k 0) ≡ b → place_of (get_or xs k 0) xs ≡ Some k → k < length xs → cond b (Some 0) (option_map (λ i. suc i) (place_of (get_or xs k 0) xs)) ≡ Some (suc k)
    by true t p m = absurd (place-gone x xs k a.1 m (sym (eqb-true x (get_or xs k 0) t)))
    by false t p m = rw p refl

-- the column's place and the column that has a place
pub column-named : (s : Embedding) (j k : ℕ) → named s j ≡ Some k → column_on s k ≡ j
column-named s j k e = by (nat_le s.next_column j) refl e
  where
    beyond : (b : Bool) → nat_lt k (length s.columns) ≡ b → s.next_column ≤ j → length s.columns + (j - s.next_column) ≡ k → cond b (slice_index_or s.columns k 0) (s.next_column + (k - length s.columns)) ≡ j
    beyond true t l i =
        let m : k < length s.columns = grind (arith, t) in
        absurd (omega (arith, m, i))
    beyond false t l i = omega (arith, l, i)

    within : (b : Bool) → nat_lt k (length s.columns) ≡ b → (k < length s.columns) × (get_or s.columns k 0 ≡ j) → cond b (slice_index_or s.columns k 0) (s.next_column + (k - length s.columns)) ≡ j
    within true t p = p.1
    within false t p =
        let m : length s.columns ≤ k = grind (arith, t) in
        absurd (omega (arith, m, p.0))

    by : (b : Bool) → nat_le s.next_column j ≡ b → cond b (Some (length s.columns + (j - s.next_column))) (place_of j s.columns) ≡ Some k → column_on s k ≡ j
    by true t e =
        let l : s.next_column ≤ j = grind (arith, t) in
        beyond (nat_lt k (length s.columns)) refl l (some-same (length s.columns + (j - s.next_column)) k e)
    by false t e = within (nat_lt k (length s.columns)) refl (place-there j s.columns k e)

pub named-column : (s : Embedding) (i : ℕ) → AreNames s.next_column s.columns → named s (column_on s i) ≡ Some i
named-column s i a = by (nat_lt i (length s.columns)) refl
  where
    low : (x : ℕ) (b : Bool) → nat_le s.next_column x ≡ b → x < s.next_column → place_of x s.columns ≡ Some i → cond b (Some (length s.columns + (x - s.next_column))) (place_of x s.columns) ≡ Some i
    low x true t l p =
        let m : s.next_column ≤ x = grind (arith, t) in
        absurd (omega (arith, l, m))
    low x false t l p = p

    high : (x : ℕ) (b : Bool) → nat_le s.next_column x ≡ b → x ≡ s.next_column + (i - length s.columns) → length s.columns ≤ i → cond b (Some (length s.columns + (x - s.next_column))) (place_of x s.columns) ≡ Some i
    high x true t e l = ap (λ (n : ℕ). Some n) (omega (arith, e, l))
    high x false t e l =
        let m : x < s.next_column = grind (arith, t) in
        absurd (omega (arith, e, m))

    by : (b : Bool) → nat_lt i (length s.columns) ≡ b → named s (cond b (slice_index_or s.columns i 0) (s.next_column + (i - length s.columns))) ≡ Some i
    by true t =
        let l : i < length s.columns = grind (arith, t) in
        low (get_or s.columns i 0) (nat_le s.next_column (get_or s.columns i 0)) refl (name-below s.next_column s.columns i a l) (place-is s.next_column s.columns i a l)
    by false t =
        let l : length s.columns ≤ i = grind (arith, t) in
        high (s.next_column + (i - length s.columns)) (nat_le s.next_column (s.next_column + (i - length s.columns))) refl refl l

-- ---- the coefficients from column i on

coef_from : Option ℕ → ℕ → List ℤ → ℤ
coef_from None i cs = pos 0
coef_from (Some k) i cs = cond (nat_le i k) (get_or cs (k - i) (pos 0)) (pos 0)

none-from : (o : Option ℕ) (i : ℕ) → pos 0 ≡ coef_from o i []
unfolding coef_from
none-from None i = refl
none-from (Some k) i = by (nat_le i k)
  where
    by : (b : Bool) → pos 0 ≡ cond b (get_or [] (k - i) (pos 0)) (pos 0)
    by true = sym (get-past [] (k - i) (omega arith))
    by false = refl

-- at the first column, and at others
first-from : (i : ℕ) (c : ℤ) (cs : List ℤ) → coef_from (Some i) (i + 1) cs +ℤ c ≡ coef_from (Some i) i (c ∷ cs)
unfolding coef_from
first-from i c cs = by (nat_le (i + 1) i) (nat_le i i) (grind arith) (grind arith)
  where
    here : (n : ℕ) → n ≡ 0 → c ≡ get_or (c ∷ cs) n (pos 0)
    here zero e = refl
    here (suc n) e = absurd (omega (arith, e))

    sum : pos 0 +ℤ c ≡ c
    sum = omega (arith, ints)

    by : (a b : Bool) → a ≡ false → b ≡ true → cond a (get_or cs (i - (i + 1)) (pos 0)) (pos 0) +ℤ c ≡ cond b (get_or (c ∷ cs) (i - i) (pos 0)) (pos 0)
    by true b e f = absurd cc
    by false true e f = sum ∙ here (i - i) (omega arith)
    by false false e f = absurd cc

other-from : (o : Option ℕ) (i : ℕ) (c : ℤ) (cs : List ℤ) → (o ≡ Some i → ⊥) → coef_from o (i + 1) cs ≡ coef_from o i (c ∷ cs)
unfolding coef_from
other-from None i c cs n = refl
other-from (Some k) i c cs n = by (nat_le (i + 1) k) (nat_le i k) refl refl
  where
    later : (m n : ℕ) → n ≡ suc m → get_or cs m (pos 0) ≡ get_or (c ∷ cs) n (pos 0)
    later m zero e = absurd (omega (arith, e))
    later m (suc n) e = ap (λ (x : ℕ). get_or cs x (pos 0)) (omega (arith, e))

    by : (a b : Bool) → nat_le (i + 1) k ≡ a → nat_le i k ≡ b → cond a (get_or cs (k - (i + 1)) (pos 0)) (pos 0) ≡ cond b (get_or (c ∷ cs) (k - i) (pos 0)) (pos 0)
    by true true e f =
        let l : i + 1 ≤ k = grind (arith, e) in
        later (k - (i + 1)) (k - i) (omega (arith, l))
    by true false e f = absurd (grind (arith, e, f))
    by false true e f =
        let l : k < i + 1 = grind (arith, e) in
        let m : i ≤ k = grind (arith, f) in
        let same : k ≡ i = omega (arith, l, m) in
        absurd (n (ap (λ (x : ℕ). Some x) same))
    by false false e f = refl

renamed-from : (s : Embedding) (i : ℕ) (cs : List ℤ) (j : ℕ) → AreNames s.next_column s.columns → get_or (renamed_coefs (map (column_on s) (range_with_len i (length cs))) cs) j (pos 0) ≡ coef_from (named s j) i cs
renamed-from s i [] j a = get-past [] j (omega arith) ∙ none-from (named s j) i
renamed-from s i (c ∷ cs) j a = by (nat_eq j (column_on s i)) refl (renamed-from s (i + 1) cs j a)
  where
    rest : List ℤ
    rest = renamed_coefs (map (column_on s) (range_with_len (i + 1) (length cs))) cs

    by : (b : Bool) → nat_eq j (column_on s i) ≡ b → get_or (renamed_coefs (map (column_on s) (range_with_len (i + 1) (length cs))) cs) j (pos 0) ≡ coef_from (named s j) (i + 1) cs
        → get_or (add_at (column_on s i) c (renamed_coefs (map (column_on s) (range_with_len (i + 1) (length cs))) cs)) j (pos 0) ≡ coef_from (named s j) i (c ∷ cs)
    by true t again =
        let same : j ≡ column_on s i = eqb-true j (column_on s i) t in
        let here : named s j ≡ Some i = ap (named s) same ∙ named-column s i a in
        let r = renamed_coefs (map (column_on s) (range_with_len (i + 1) (length cs))) cs in
        let at : get_or (add_at (column_on s i) c r) j (pos 0) ≡ get_or r j (pos 0) +ℤ c = ap (λ (k : ℕ). get_or (add_at k c r) j (pos 0)) (sym same) ∙ get-added j c r in
        let found : coef_from (named s j) (i + 1) cs ≡ coef_from (Some i) (i + 1) cs = ap (λ (o : Option ℕ). coef_from o (i + 1) cs) here in
        let ends : coef_from (Some i) i (c ∷ cs) ≡ coef_from (named s j) i (c ∷ cs) = ap (λ (o : Option ℕ). coef_from o i (c ∷ cs)) (sym here) in
        at ∙ ap (λ z. z +ℤ c) (again ∙ found) ∙ first-from i c cs ∙ ends
    by false t again =
        get-beside (column_on s i) c (renamed_coefs (map (column_on s) (range_with_len (i + 1) (length cs))) cs) j (eqb-false j (column_on s i) t)
        ∙ again ∙ other-from (named s j) i c cs (λ e. eqb-false j (column_on s i) t (sym (column-named s j i e)))

all-from : (o : Option ℕ) (f : Affine) → coef_from o 0 f.coefs ≡ coef_of o f
unfolding coef_from
all-from None f = refl
all-from (Some k) f = by (nat_le 0 k) (grind arith)
  where
    by : (b : Bool) → b ≡ true → cond b (get_or f.coefs (k - 0) (pos 0)) (pos 0) ≡ get_or f.coefs k (pos 0)
    by true e = ap (λ (n : ℕ). get_or f.coefs n (pos 0)) (omega arith)
    by false e = absurd cc

pub renames-moved : (s : Embedding) (f : Affine) → AreNames s.next_column s.columns → Renames (named s) f (moved_form s f)
renames-moved s f a = record {
  konst = refl;
  coefs = λ j. get-trim (renamed_coefs (columns_on s (length f.coefs)) f.coefs) j ∙ renamed-from s 0 f.coefs j a ∙ all-from (named s j) f;
}

-- ---- the columns of the moved form

column-below : (s : Embedding) (n k : ℕ) → AreNames s.next_column s.columns → k < length s.columns + n → column_on s k < s.next_column + n
column-below s n k a l = by (nat_lt k (length s.columns)) refl
  where
    by : (b : Bool) → nat_lt k (length s.columns) ≡ b → cond b (slice_index_or s.columns k 0) (s.next_column + (k - length s.columns)) < s.next_column + n
    by true t =
        let m : k < length s.columns = grind (arith, t) in
        let x = name-below s.next_column s.columns k a m in
        omega (arith, x)
    by false t =
        let m : length s.columns ≤ k = grind (arith, t) in
        omega (arith, m, l)

columns-below : (s : Embedding) (n i m : ℕ) → AreNames s.next_column s.columns → i + m ≤ length s.columns + n → AreColumns (s.next_column + n) (map (column_on s) (range_with_len i m))
columns-below s n i zero a l = tt
columns-below s n i (suc m) a l = (column-below s n i a (omega (arith, l)), columns-below s n (i + 1) m a (omega (arith, l)))

pub moved-within : (s : Embedding) (f : Affine) (n : ℕ) → AreNames s.next_column s.columns → length f.coefs ≤ length s.columns + n → length (moved_form s f).coefs ≤ s.next_column + n
moved-within s f n a l =
    let cs = renamed_coefs (columns_on s (length f.coefs)) f.coefs in
    omega (arith, trim-short cs, form-within (columns_on s (length f.coefs)) f (s.next_column + n) (columns-below s n 0 (length f.coefs) a (omega (arith, l))))

-- ---- forms under a list of columns

renamed-at : (n : ℕ) (ks : List ℕ) (f : Affine) (cs : List ℤ) (j : ℕ) → f.coefs ≡ cs → AreNames n ks → get_or (renamed_coefs ks cs) j (pos 0) ≡ coef_of (place_of j ks) f
renamed-at n [] f cs j e a = get-past [] j (omega arith)
renamed-at n (k ∷ ks) f [] j e a = get-past [] j (omega arith) ∙ by (place_of j (k ∷ ks))
  where
    by : (o : Option ℕ) → pos 0 ≡ coef_of o f
    by None = refl
    by (Some i) = sym (ap (λ (xs : List ℤ). get_or xs i (pos 0)) e ∙ get-past [] i (omega arith))
renamed-at n (k ∷ ks) f (c ∷ cs) j e a =
    let rest : Affine = record { konst = pos 0; coefs = cs } in
    by (nat_eq k j) refl (renamed-at n ks rest cs j refl a.2)
  where
    behind : (o : Option ℕ) → coef_of o (record { konst = pos 0; coefs = cs }) ≡ coef_of (option_map (λ i. suc i) o) f
    behind None = refl
    behind (Some i) = sym (ap (λ (xs : List ℤ). get_or xs (suc i) (pos 0)) e)

    by : (b : Bool) → nat_eq k j ≡ b → get_or (renamed_coefs ks cs) j (pos 0) ≡ coef_of (place_of j ks) (record { konst = pos 0; coefs = cs }) → get_or (add_at k c (renamed_coefs ks cs)) j (pos 0) ≡ coef_of (cond b (Some 0) (option_map (λ i. suc i) (place_of j ks))) f
    by true t again =
        let same : k ≡ j = eqb-true k j t in
        let alone : place_of j ks ≡ None = ap (λ (x : ℕ). place_of x ks) (sym same) ∙ a.1 in
        let zero : get_or (renamed_coefs ks cs) j (pos 0) ≡ pos 0 = again ∙ ap (λ (o : Option ℕ). coef_of o (record { konst = pos 0; coefs = cs })) alone in
        ap (λ (x : ℕ). get_or (add_at x c (renamed_coefs ks cs)) j (pos 0)) same ∙ get-added j c (renamed_coefs ks cs) ∙ ap (λ z. z +ℤ c) zero ∙ sum ∙ sym (ap (λ (xs : List ℤ). get_or xs 0 (pos 0)) e)
      where
        sum : pos 0 +ℤ c ≡ c
        sum = omega (arith, ints)
    by false t again = get-beside k c (renamed_coefs ks cs) j (λ h. eqb-false k j t (sym h)) ∙ again ∙ behind (place_of j ks)

trims-alike : (a b : List ℤ) → ((j : ℕ) → get_or a j (pos 0) ≡ get_or b j (pos 0)) → trim a ≡ trim b
trims-alike [] [] h = refl
trims-alike [] (y ∷ ys) h =
    let z : y ≡ pos 0 = sym (h 0) in
    rw (← (trims-alike [] ys (λ j. get-past [] j (omega arith) ∙ sym (get-past [] (suc j) (omega arith)) ∙ h (suc j))), z) refl
trims-alike (x ∷ xs) [] h =
    let z : x ≡ pos 0 = h 0 in
    rw (trims-alike xs [] (λ j. h (suc j) ∙ get-past [] (suc j) (omega arith) ∙ sym (get-past [] j (omega arith))), z) refl
trims-alike (x ∷ xs) (y ∷ ys) h = rw (h 0, trims-alike xs ys (λ j. h (suc j))) refl

pub renames-listed : (n : ℕ) (ks : List ℕ) (f g : Affine) → AreNames n ks → trimmed g ≡ trimmed (renamed ks f) → Renames (λ j. place_of j ks) f g
renames-listed n ks f g a e = record {
  konst = ap (λ (h : Affine). h.konst) e;
  coefs = λ j. sym (get-trim g.coefs j) ∙ ap (λ (h : Affine). get_or h.coefs j (pos 0)) e ∙ get-trim (renamed_coefs ks f.coefs) j ∙ renamed-at n ks f f.coefs j refl a;
}

pub listed-renames : (n : ℕ) (ks : List ℕ) (f g : Affine) → AreNames n ks → Renames (λ j. place_of j ks) f g → trimmed g ≡ trimmed (renamed ks f)
listed-renames n ks f g a r =
    let same : trim g.coefs ≡ trim (renamed_coefs ks f.coefs) = trims-alike g.coefs (renamed_coefs ks f.coefs) (λ j. r.coefs j ∙ sym (renamed-at n ks f f.coefs j refl a)) in
    λ i. record { konst = r.konst i; coefs = same i }
