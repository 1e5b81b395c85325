-- Rows of a normal form end with no 0, so those without the last columns are over the first ones.
use Rattle.std.proofs.Common.{◌≡◌, ℕ, zero, suc, ◌<◌, ◌≤◌, ℤ, pos, negsuc, ◌*ℤ◌, List, [], ◌∷◌, length, map, get_or, Bool, true, false, cond, ◌||◌, ◌==◌, not, nat_lt, refl, ap, subst, arith}
use Rattle.std.specs.Prelude.{int_le}
use Rattle.std.specs.List.{dedup, dedup_from}
use Rattle.std.specs.Ordering.{int_eq, is_gt}
use Rattle.std.specs.Int.{int_div_euclid, int_rem_euclid}
use Rattle.std.proofs.lemmas.Int.{ints}
use Rattle.ac_base.specs.Dot.{floored}
use Rattle.ac_base.specs.Gcd.{content}
use Rattle.ac_base.specs.Multiple.{divides}
use Rattle.ac_forms.specs.Affine.{Affine, scaled}
use Rattle.ac_forms.specs.RowColumns.{has_column, is_present, IsTrimmed, AreTrimmed}
use Rattle.ac_forms.specs.NormalForm.{absurd_rows, left_onto, left_rows, has_absurd, insert_row, in_order, alike, has_clash, joined, normal_form}
use Rattle.ac_forms.specs.NormalRows.{trim, trim_onto, divided, reduced, leads_negative, signed, normal_row, modular_content}
use Rattle.ac_forms.specs.FormOrder.{row_cmp}
use Rattle.ac_forms.specs.Rows.{form_of, IsRowOver, AreRowsOver}
use Rattle.ac_forms.specs.declared.normal.NormalRow.{NormalRow}
use Rattle.ac_forms.specs.declared.normal.NormalRow.TheVariants.{Kept, Dropped, Absurd}
use Rattle.ac_forms.specs.declared.row.Row.{Row}
use Rattle.ac_forms.specs.declared.row.Row.TheVariants.{Eq, Div, Ge}

-- the list ends with no 0
Ends : List ℤ → Type 0
Ends [] = Unit {0}
Ends (c ∷ []) = c ≡ pos 0 → ⊥
Ends (c ∷ d ∷ ds) = Ends (d ∷ ds)

int_false : (x y : ℤ) → int_eq x y ≡ false → x ≡ y → ⊥
int_false x y e h = grind (arith, ints, e, h)

false_int : (x y : ℤ) → (x ≡ y → ⊥) → int_eq x y ≡ false
false_int x y h = grind (arith, ints)

trim-ends : (cs : List ℤ) → Ends (trim cs)
unfolding Ends
trim-ends [] = tt
trim-ends (c ∷ cs) = by (trim cs) (trim-ends cs)
  where
    single : (b : Bool) → int_eq c (pos 0) ≡ b → Ends (cond b [] (c ∷ []))
    single true e = tt
    single false e = int_false c (pos 0) e

    by : (ds : List ℤ) → Ends ds → Ends (trim_onto c ds)
    by [] h = single (int_eq c (pos 0)) refl
    by (d ∷ ds) h = h

ends-trim : (cs : List ℤ) → Ends cs → trim cs ≡ cs
unfolding Ends
ends-trim [] h = refl
ends-trim (c ∷ []) h = ap (λ b. cond b [] (c ∷ [])) (false_int c (pos 0) h)
ends-trim (c ∷ d ∷ ds) h = ap (trim_onto c) (ends-trim (d ∷ ds) h)

-- without the zeros at the end there are none left
pub trim-twice : (cs : List ℤ) → trim (trim cs) ≡ trim cs
trim-twice cs = ends-trim (trim cs) (trim-ends cs)

opposite-ends : (cs : List ℤ) → Ends cs → Ends (map (λ c. negsuc 0 *ℤ c) cs)
unfolding Ends
opposite-ends [] h = tt
opposite-ends (c ∷ []) h = λ e. h (omega (arith, ints, e))
opposite-ends (c ∷ d ∷ ds) h = opposite-ends (d ∷ ds) h

-- its last number stands at a column
ends-short : (cs : List ℤ) (n : ℕ) → Ends cs → ((j : ℕ) → n ≤ j → get_or cs j (pos 0) ≡ pos 0) → length cs ≤ n
unfolding Ends
ends-short [] n h z = omega arith
ends-short (c ∷ []) zero h z = absurd (h (z 0 (omega arith)))
ends-short (c ∷ []) (suc n) h z = omega arith
ends-short (c ∷ d ∷ ds) zero h z =
    let r = ends-short (d ∷ ds) zero h (λ j l. z (suc j) (omega arith)) in
    absurd (omega (arith, r))
ends-short (c ∷ d ∷ ds) (suc n) h z =
    let r = ends-short (d ∷ ds) n h (λ j l. z (suc j) (omega (arith, l))) in
    omega (arith, r)

pub trimmed-short : (cs : List ℤ) (n : ℕ) → trim cs ≡ cs → ((j : ℕ) → n ≤ j → get_or cs j (pos 0) ≡ pos 0) → length cs ≤ n
trimmed-short cs n e z = ends-short cs n (subst (λ (xs : List ℤ). Ends xs) e (trim-ends cs)) z

RowEnds : Row → Type 0
RowEnds r = Ends (form_of r).coefs

RowsEnd : List Row → Type 0
RowsEnd [] = Unit {0}
RowsEnd (r ∷ rs) = RowEnds r × RowsEnd rs

LeftEnds : NormalRow → Type 0
LeftEnds (Kept r) = RowEnds r
LeftEnds Dropped = Unit {0}
LeftEnds Absurd = Unit {0}

left-cond : (b : Bool) (k l : NormalRow) → LeftEnds k → LeftEnds l → LeftEnds (cond b k l)
left-cond true k l h g = h
left-cond false k l h g = g

signed-ends : (f : Affine) → Ends f.coefs → Ends (signed f).coefs
signed-ends f h = by (leads_negative f.coefs)
  where
    by : (b : Bool) → Ends (cond b (scaled (negsuc 0) f) f).coefs
    by true = opposite-ends f.coefs h
    by false = h

row-ends : (r : Row) → LeftEnds (normal_row r)
unfolding LeftEnds RowEnds
row-ends (Eq f) =
    left-cond (content f.coefs == 0) (cond (int_eq f.konst (pos 0)) Dropped Absurd) (cond (divides (content f.coefs) f.konst) (Kept (Eq (signed (divided (pos (content f.coefs)) f)))) Absurd)
    (left-cond (int_eq f.konst (pos 0)) Dropped Absurd tt tt)
    (left-cond (divides (content f.coefs) f.konst) (Kept (Eq (signed (divided (pos (content f.coefs)) f)))) Absurd (signed-ends (divided (pos (content f.coefs)) f) (trim-ends (floored (pos (content f.coefs)) f.coefs))) tt)
row-ends (Div m f) =
    let n : ℕ = modular_content m f in
    left-cond (divides n (int_rem_euclid f.konst m)) (cond (int_eq (int_div_euclid m (pos n)) (pos 1)) Dropped (Kept (Div (int_div_euclid m (pos n)) (divided (pos n) (reduced m f))))) Absurd
    (left-cond (int_eq (int_div_euclid m (pos n)) (pos 1)) Dropped (Kept (Div (int_div_euclid m (pos n)) (divided (pos n) (reduced m f)))) tt (trim-ends (floored (pos n) (reduced m f).coefs))) tt
row-ends (Ge f) =
    left-cond (content f.coefs == 0) (cond (int_le (pos 0) f.konst) Dropped Absurd) (Kept (Ge (divided (pos (content f.coefs)) f)))
    (left-cond (int_le (pos 0) f.konst) Dropped Absurd tt tt) (trim-ends (floored (pos (content f.coefs)) f.coefs))

onto-ends : (l : NormalRow) (rs : List Row) → LeftEnds l → RowsEnd rs → RowsEnd (left_onto l rs)
unfolding LeftEnds RowsEnd
onto-ends (Kept r) rs h g = (h, g)
onto-ends Dropped rs h g = g
onto-ends Absurd rs h g = g

left_rows-end : (rs : List Row) → RowsEnd (left_rows rs)
unfolding RowsEnd
left_rows-end [] = tt
left_rows-end (r ∷ rs) = onto-ends (normal_row r) (left_rows rs) (row-ends r) (left_rows-end rs)

rows-cond : (b : Bool) (xs ys : List Row) → RowsEnd xs → RowsEnd ys → RowsEnd (cond b xs ys)
rows-cond true xs ys h g = h
rows-cond false xs ys h g = g

insert-end : (r : Row) (rs : List Row) → RowEnds r → RowsEnd rs → RowsEnd (insert_row r rs)
unfolding RowsEnd
insert-end r [] h g = (h, tt)
insert-end r (s ∷ ss) h g = rows-cond (is_gt (row_cmp r s)) _ _ (g.0, insert-end r ss h g.1) (h, g)

order-end : (rs : List Row) → RowsEnd rs → RowsEnd (in_order rs)
unfolding RowsEnd
order-end [] h = tt
order-end (r ∷ rs) h = insert-end r (in_order rs) h.0 (order-end rs h.1)

dedup-end : (k : Row) (rs : List Row) → RowEnds k → RowsEnd rs → RowsEnd (dedup_from alike k rs)
unfolding RowsEnd
dedup-end k [] h g = (h, tt)
dedup-end k (r ∷ rs) h g = rows-cond (alike r k) _ _ (dedup-end k rs h g.1) (h, dedup-end r rs g.0 g.1)

joined-end : (rs : List Row) → RowsEnd rs → RowsEnd (dedup alike rs)
unfolding RowsEnd
joined-end [] h = tt
joined-end (r ∷ rs) h = dedup-end r rs h.0 h.1

absurd-end : RowsEnd absurd_rows
unfolding RowsEnd RowEnds Ends
absurd-end = (tt, tt)

form-ends : (rs : List Row) → RowsEnd (normal_form rs)
form-ends rs =
    let o = order-end (left_rows rs) (left_rows-end rs) in
    rows-cond (has_absurd rs) absurd_rows (joined (in_order (left_rows rs))) absurd-end (rows-cond (has_clash (in_order (left_rows rs))) absurd_rows _ absurd-end (joined-end (in_order (left_rows rs)) o))

are-trimmed : (rs : List Row) → RowsEnd rs → AreTrimmed rs
unfolding RowsEnd RowEnds
are-trimmed [] h = tt
are-trimmed (r ∷ rs) h = (ends-trim (form_of r).coefs h.0, are-trimmed rs h.1)

pub normal-trimmed : (rs : List Row) → AreTrimmed (normal_form rs)
normal-trimmed rs = are-trimmed (normal_form rs) (form-ends rs)

kept-ends : (l : NormalRow) (s : Row) → l ≡ Kept s → LeftEnds l → IsTrimmed s
unfolding LeftEnds RowEnds
kept-ends (Kept r) s e h = let k : r ≡ s = cc in subst (λ (x : Row). IsTrimmed x) k (ends-trim (form_of r).coefs h)
kept-ends Dropped s e h = absurd cc
kept-ends Absurd s e h = absurd cc

pub kept-trimmed : (r s : Row) → normal_row r ≡ Kept s → IsTrimmed s
kept-trimmed r s e = kept-ends (normal_row r) s e (row-ends r)

-- ---- rows without the last columns

pub past : (cs : List ℤ) (j : ℕ) → length cs ≤ j → get_or cs j (pos 0) ≡ pos 0
past [] j l = refl
past (c ∷ cs) zero l = absurd (omega (arith, l))
past (c ∷ cs) (suc j) l = past cs j (omega (arith, l))

pub or-false : (a b : Bool) → (a || b) ≡ false → (a ≡ false) × (b ≡ false)
or-false true b e = absurd cc
or-false false b e = (refl, e)

not-has : (c : ℤ) → not (int_eq c (pos 0)) ≡ false → c ≡ pos 0
not-has c e = by (int_eq c (pos 0)) refl e
  where
    by : (b : Bool) → int_eq c (pos 0) ≡ b → not b ≡ false → c ≡ pos 0
    by true i e = grind (arith, ints, i)
    by false i e = absurd cc

row-short : (first n : ℕ) (r : Row) → IsRowOver n r → IsTrimmed r → ((j : ℕ) → first ≤ j → j < n → has_column j r ≡ false) → IsRowOver first r
row-short first n r w e z = (trimmed-short (form_of r).coefs first e (λ j l. by j l (nat_lt j n) refl), w.1)
  where
    by : (j : ℕ) → first ≤ j → (b : Bool) → nat_lt j n ≡ b → get_or (form_of r).coefs j (pos 0) ≡ pos 0
    by j l true h = not-has (get_or (form_of r).coefs j (pos 0)) (z j l (grind (arith, h)))
    by j l false h = past (form_of r).coefs j (let k : n ≤ j = grind (arith, h) in let m = w.0 in omega (arith, k, m))

pub rows-short : (first n : ℕ) (rows : List Row) → AreRowsOver n rows → AreTrimmed rows → ((j : ℕ) → first ≤ j → j < n → is_present j rows ≡ false) → AreRowsOver first rows
rows-short first n [] w e z = tt
rows-short first n (r ∷ rs) w e z =
    (row-short first n r w.0 e.0 (λ j l m. (or-false (has_column j r) (is_present j rs) (z j l m)).0), rows-short first n rs w.1 e.1 (λ j l m. (or-false (has_column j r) (is_present j rs) (z j l m)).1))
