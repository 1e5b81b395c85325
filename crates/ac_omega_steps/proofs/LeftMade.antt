-- What a choice leaves is well made, and so is the normal form of rows that are.
use Rattle.std.proofs.Common.{◌≡◌, ℕ, zero, suc, ◌<◌, ◌≤◌, ◌==◌, ℤ, pos, negsuc, ◌-ℤ◌, ◌*ℤ◌, ◌≤ℤ◌, List, [], ◌∷◌, ◌++◌, length, take, drop, map, set, Option, Some, None, Bool, true, false, not, ◌&&◌, nat_lt, cond, slice_get, refl, sym, subst, arith}
use Rattle.std.specs.Prelude.{unsigned_abs, int_le, IfSome}
use Rattle.std.specs.Int.{int_div_euclid, int_rem_euclid}
use Rattle.std.specs.List.{dedup, dedup_from}
use Rattle.std.specs.Ordering.{int_eq, is_gt}
use Rattle.std.proofs.lemmas.Int.{ints}
use Rattle.std.proofs.lemmas.List.{length-map, length-set}
use Rattle.std.proofs.Math.Nat.{le-div_iff_mul-le}
use Rattle.ac_base.proofs.Products.{mul-le-mul_ℤ}
use Rattle.ac_base.specs.Dot.{mix, floored, residues}
use Rattle.ac_base.specs.Gcd.{content}
use Rattle.ac_base.specs.Multiple.{divides}
use Rattle.ac_forms.specs.Affine.{Affine, coef, scaled}
use Rattle.ac_forms.specs.Rows.{IsRowOver, AreRowsOver, IsWellMade}
use Rattle.ac_forms.specs.NormalRows.{trim, trim_onto, divided, reduced, leads_negative, signed, modular_content, normal_row}
use Rattle.ac_forms.specs.NormalForm.{absurd_rows, left_onto, left_rows, has_absurd, insert_row, in_order, alike, has_clash, joined, normal_form, normal_conj, RowsFit}
use Rattle.ac_forms.specs.FormOrder.{row_cmp}
use Rattle.ac_forms.specs.declared.conj.Conj.{Conj}
use Rattle.ac_forms.specs.declared.row.Row.{Row}
use Rattle.ac_forms.specs.declared.row.Row.TheVariants.{Eq, Div, Ge}
use Rattle.ac_forms.specs.declared.normal.NormalRow.{NormalRow}
use Rattle.ac_forms.specs.declared.normal.NormalRow.TheVariants.{Kept, Dropped, Absurd}
use Rattle.ac_forms.specs.RangeTests.{rows_fit}
use Rattle.ac_forms.proofs.Sizes.{common_small}
use Rattle.ac_forms.proofs.Twins.{rows_fit-is}
use Rattle.ac_omega_steps.specs.declared.column.Bound.{Bound}
use Rattle.ac_omega_steps.specs.declared.choose.Choice.{Choice}
use Rattle.ac_omega_steps.specs.declared.choose.Choice.TheVariants as choice
use Rattle.ac_omega_steps.specs.Bounds.{is_low, is_high, lows, highs, rows_without}
use Rattle.ac_forms.specs.RowColumns.{has_column}
use Rattle.ac_omega_steps.specs.Choices.{column_of, are_absurd, is_equality_of, allows, is_legal, size_of, against, replaced_row, others, by_equality, substitute_residue_row, shadows_with, shadows, splinter, left_by}
use Rattle.ac_omega_steps.specs.ChoiceFits.{raw, choice_fits}
use Rattle.ac_omega_steps.specs.LeftRows.{AreBoundsOver}
use Rattle.ac_omega_steps.proofs.Keeping.{row-made, made-push}
use Rattle.ac_base.proofs.Truths.{and-true, test-false}

-- lengths
trim_onto-length : (c : ℤ) (ds : List ℤ) → length (trim_onto c ds) ≤ suc (length ds)
trim_onto-length c [] = elim (int_eq c (pos 0)) as (λ b. length (cond b [] (c ∷ [])) ≤ 1) [ true ↦ omega arith | false ↦ omega arith ]
trim_onto-length c (d ∷ ds) = omega arith

trim-length : (cs : List ℤ) → length (trim cs) ≤ length cs
trim-length [] = omega arith
trim-length (c ∷ cs) = omega (arith, trim_onto-length c (trim cs), trim-length cs)

divided-within : (n : ℕ) (d : ℤ) (f : Affine) → length f.coefs ≤ n → length (divided d f).coefs ≤ n
divided-within n d f h = omega (arith, trim-length (floored d f.coefs), length-map f.coefs (λ (c : ℤ). int_div_euclid c d))

reduced-within : (n : ℕ) (m : ℤ) (f : Affine) → length f.coefs ≤ n → length (reduced m f).coefs ≤ n
reduced-within n m f h = omega (arith, length-map f.coefs (λ (c : ℤ). int_rem_euclid c m))

signed-within : (n : ℕ) (f : Affine) → length f.coefs ≤ n → length (signed f).coefs ≤ n
signed-within n f h = elim (leads_negative f.coefs) as (λ (b : Bool). length (cond b (scaled (negsuc 0) f) f).coefs ≤ n) [ true ↦ omega (arith, length-map f.coefs (λ (c : ℤ). negsuc 0 *ℤ c)) | false ↦ h ]

-- what is left of a row
abbrev IsLeftOver : ℕ → NormalRow → Type 0
IsLeftOver n (Kept r) = IsRowOver n r
IsLeftOver n Dropped = Unit {0}
IsLeftOver n Absurd = Unit {0}

left-cond : (n : ℕ) (b : Bool) (k l : NormalRow) → IsLeftOver n k → IsLeftOver n l → IsLeftOver n (cond b k l)
left-cond n true k l h g = h
left-cond n false k l h g = g

quotient-positive : (m : ℤ) (d : ℕ) → pos 1 ≤ℤ m → 0 < d → d ≤ unsigned_abs m → pos 1 ≤ℤ int_div_euclid m (pos d)
quotient-positive (pos k) d h p l = let q = (le-div_iff_mul-le {k = d} {x = 1} {y = k} p).1 (omega arith) in omega (arith, ints, q)
quotient-positive (negsuc k) d h p l = absurd (omega (arith, ints, h))

left-made : (n : ℕ) (r : Row) → IsRowOver n r → IsLeftOver n (normal_row r)
left-made n (Eq f) h =
    left-cond n (content f.coefs == 0) _ _ (left-cond n (int_eq f.konst (pos 0)) Dropped Absurd tt tt)
    (left-cond n (divides (content f.coefs) f.konst) _ Absurd (signed-within n (divided (pos (content f.coefs)) f) (divided-within n (pos (content f.coefs)) f h.0), tt) tt)
left-made n (Div m f) h =
    let d = modular_content m f in
    let s = common_small m (residues m f.coefs) h.1 in
    left-cond n (divides (modular_content m f) (int_rem_euclid f.konst m)) _ Absurd
    (left-cond n (int_eq (int_div_euclid m (pos (modular_content m f))) (pos 1)) Dropped _ tt
    (divided-within n (pos (modular_content m f)) (reduced m f) (reduced-within n m f h.0), quotient-positive m (modular_content m f) h.1 s.0 s.1)) tt
left-made n (Ge f) h =
    left-cond n (content f.coefs == 0) _ _ (left-cond n (int_le (pos 0) f.konst) Dropped Absurd tt tt) (divided-within n (pos (content f.coefs)) f h.0, tt)

-- lists of rows
onto-made : (n : ℕ) (l : NormalRow) (rs : List Row) → IsLeftOver n l → AreRowsOver n rs → AreRowsOver n (left_onto l rs)
onto-made n (Kept r) rs h g = (h, g)
onto-made n Dropped rs h g = g
onto-made n Absurd rs h g = g

left_rows-made : (n : ℕ) (rs : List Row) → AreRowsOver n rs → AreRowsOver n (left_rows rs)
left_rows-made n [] h = tt
left_rows-made n (r ∷ rs) h = onto-made n (normal_row r) (left_rows rs) (left-made n r h.0) (left_rows-made n rs h.1)

rows-cond : (n : ℕ) (b : Bool) (xs ys : List Row) → AreRowsOver n xs → AreRowsOver n ys → AreRowsOver n (cond b xs ys)
rows-cond n true xs ys h g = h
rows-cond n false xs ys h g = g

insert-made : (n : ℕ) (r : Row) (rs : List Row) → IsRowOver n r → AreRowsOver n rs → AreRowsOver n (insert_row r rs)
insert-made n r [] h g = (h, tt)
insert-made n r (s ∷ ss) h g = rows-cond n (is_gt (row_cmp r s)) _ _ (g.0, insert-made n r ss h g.1) (h, g)

order-made : (n : ℕ) (rs : List Row) → AreRowsOver n rs → AreRowsOver n (in_order rs)
order-made n [] h = tt
order-made n (r ∷ rs) h = insert-made n r (in_order rs) h.0 (order-made n rs h.1)

dedup-made : (n : ℕ) (k : Row) (rs : List Row) → IsRowOver n k → AreRowsOver n rs → AreRowsOver n (dedup_from alike k rs)
dedup-made n k [] h g = (h, tt)
dedup-made n k (r ∷ rs) h g = rows-cond n (alike r k) _ _ (dedup-made n k rs h g.1) (h, dedup-made n r rs g.0 g.1)

joined-made : (n : ℕ) (rs : List Row) → AreRowsOver n rs → AreRowsOver n (dedup alike rs)
joined-made n [] h = tt
joined-made n (r ∷ rs) h = dedup-made n r rs h.0 h.1

absurd-made : (n : ℕ) → AreRowsOver n absurd_rows
absurd-made n = ((omega arith, tt), tt)

pub form-made : (n : ℕ) (rs : List Row) → AreRowsOver n rs → AreRowsOver n (normal_form rs)
form-made n rs h =
    let o = order-made n (left_rows rs) (left_rows-made n rs h) in
    rows-cond n (has_absurd rs) absurd_rows (joined (in_order (left_rows rs))) (absurd-made n) (rows-cond n (has_clash (in_order (left_rows rs))) absurd_rows _ (absurd-made n) (joined-made n (in_order (left_rows rs)) o))

pub conj_made : (c : Conj) → IsWellMade c → IsWellMade (normal_conj c)
conj_made c h = form-made c.columns c.rows h

pub rows_fit_true : (rs : List Row) → RowsFit rs → rows_fit rs ≡ true
rows_fit_true rs h = (rows_fit-is rs).1 h

pub rows_fit_false : (rs : List Row) → ¬ RowsFit rs → rows_fit rs ≡ false
rows_fit_false rs h = test-false (rows_fit rs) (rows_fit-is rs) h

-- what a choice leaves
mix-within : (k : ℤ) (a : List ℤ) (l : ℤ) (b : List ℤ) (n : ℕ) → length a ≤ n → length b ≤ n → length (mix k a l b) ≤ n
mix-within k [] l [] n v w = omega arith
mix-within k [] l (y ∷ ys) zero v w = absurd (omega arith)
mix-within k [] l (y ∷ ys) (suc n) v w = omega (arith, mix-within k [] l ys n (omega arith) (omega arith))
mix-within k (x ∷ xs) l [] zero v w = absurd (omega arith)
mix-within k (x ∷ xs) l [] (suc n) v w = omega (arith, mix-within k xs l [] n (omega arith) (omega arith))
mix-within k (x ∷ xs) l (y ∷ ys) zero v w = absurd (omega arith)
mix-within k (x ∷ xs) l (y ∷ ys) (suc n) v w = omega (arith, mix-within k xs l ys n (omega arith) (omega arith))

pub rows_without-made : (n z : ℕ) (rs : List Row) → AreRowsOver n rs → AreRowsOver n (rows_without z rs)
rows_without-made n z [] h = tt
rows_without-made n z (r ∷ rs) h = rows-cond n (has_column z r) (rows_without z rs) (r ∷ rows_without z rs) (rows_without-made n z rs h.1) (h.0, rows_without-made n z rs h.1)

pub append-made : (n : ℕ) (xs ys : List Row) → AreRowsOver n xs → AreRowsOver n ys → AreRowsOver n (xs ++ ys)
append-made n [] ys h g = g
append-made n (x ∷ xs) ys h g = (h.0, append-made n xs ys h.1 g)

take-made : (n i : ℕ) (rs : List Row) → AreRowsOver n rs → AreRowsOver n (take i rs)
take-made n zero rs h = tt
take-made n (suc i) [] h = tt
take-made n (suc i) (r ∷ rs) h = (h.0, take-made n i rs h.1)

drop-made : (n i : ℕ) (rs : List Row) → AreRowsOver n rs → AreRowsOver n (drop i rs)
drop-made n zero rs h = h
drop-made n (suc i) [] h = tt
drop-made n (suc i) (r ∷ rs) h = drop-made n i rs h.1

-- by an equality
size-positive : (c : ℤ) → not (int_eq c (pos 0)) ≡ true → pos 1 ≤ℤ size_of c
size-positive (pos zero) e = absurd cc
size-positive (pos (suc n)) e = omega (arith, ints)
size-positive (negsuc n) e = omega (arith, ints)

product-positive : (a b : ℤ) → pos 1 ≤ℤ a → pos 1 ≤ℤ b → pos 1 ≤ℤ (a *ℤ b)
product-positive (pos a) (pos b) h g = let p = mul-le-mul_ℤ a (pos 1) (pos b) g in omega (arith, ints, p, h)
product-positive (negsuc a) b h g = absurd (omega (arith, ints, h))
product-positive (pos a) (negsuc b) h g = absurd (omega (arith, ints, g))

replaced-made : (n z : ℕ) (g : Affine) (r : Row) → length g.coefs ≤ n → pos 1 ≤ℤ size_of (coef z g) → IsRowOver n r → IsRowOver n (replaced_row z g r)
replaced-made n z g (Ge f) w s h = (mix-within (size_of (coef z g)) f.coefs (against (coef z g) (coef z f)) g.coefs n h.0 w, tt)
replaced-made n z g (Eq f) w s h = (mix-within (size_of (coef z g)) f.coefs (against (coef z g) (coef z f)) g.coefs n h.0 w, tt)
replaced-made n z g (Div m f) w s h = (mix-within (size_of (coef z g)) f.coefs (against (coef z g) (coef z f)) g.coefs n h.0 w, product-positive (size_of (coef z g)) m s h.1)

all-replaced : (n z : ℕ) (g : Affine) (rs : List Row) → length g.coefs ≤ n → pos 1 ≤ℤ size_of (coef z g) → AreRowsOver n rs → AreRowsOver n (map (replaced_row z g) rs)
all-replaced n z g [] w s h = tt
all-replaced n z g (r ∷ rs) w s h = (replaced-made n z g r w s h.0, all-replaced n z g rs w s h.1)

set-within : (n z : ℕ) (cs : List ℤ) (v : ℤ) → length cs ≤ n → length (set cs z v) ≤ n
set-within n z cs v h = omega (arith, length-set cs z v)

equality-made : (n z i : ℕ) (o : Option Row) (rs : List Row) → AreRowsOver n rs → slice_get rs i ≡ o → is_equality_of z o ≡ true → AreRowsOver n (by_equality z i o rs)
equality-made n z i None rs h e t = h
equality-made n z i (Some (Ge g)) rs h e t = h
equality-made n z i (Some (Div m g)) rs h e t = h
equality-made n z i (Some (Eq g)) rs h e t =
    let w = (row-made n rs i (Eq g) h e).0 in
    let s = size-positive (coef z g) t in
    append-made n _ _ (all-replaced n z g (others i rs) w s (append-made n (take i rs) (drop (suc i) rs) (take-made n i rs h) (drop-made n (suc i) rs h))) ((set-within n z g.coefs (pos 0) w, s), tt)

-- by a residue
substitute_residue-made : (n z : ℕ) (m q : ℤ) (r : Row) → IsRowOver n r → IsRowOver n (substitute_residue_row z m q r)
substitute_residue-made n z m q (Ge f) h = (set-within n z f.coefs (coef z f *ℤ m) h.0, tt)
substitute_residue-made n z m q (Eq f) h = (set-within n z f.coefs (coef z f *ℤ m) h.0, tt)
substitute_residue-made n z m q (Div k f) h = (set-within n z f.coefs (coef z f *ℤ m) h.0, h.1)

all-substitute_residue : (n z : ℕ) (m q : ℤ) (rs : List Row) → AreRowsOver n rs → AreRowsOver n (map (substitute_residue_row z m q) rs)
all-substitute_residue n z m q [] h = tt
all-substitute_residue n z m q (r ∷ rs) h = (substitute_residue-made n z m q r h.0, all-substitute_residue n z m q rs h.1)

-- by shadows
bounds-cond : (n : ℕ) (t : Bool) (b : Bound) (bs : List Bound) → length b.rest.coefs ≤ n → AreBoundsOver n bs → AreBoundsOver n (cond t (b ∷ bs) bs)
bounds-cond n true b bs h g = (h, g)
bounds-cond n false b bs h g = g

pub lows-made : (n z : ℕ) (rs : List Row) → AreRowsOver n rs → AreBoundsOver n (lows z rs)
lows-made n z [] h = tt
lows-made n z (Ge f ∷ rs) h = bounds-cond n (is_low z f) _ (lows z rs) (set-within n z f.coefs (pos 0) h.0.0) (lows-made n z rs h.1)
lows-made n z (Eq f ∷ rs) h = lows-made n z rs h.1
lows-made n z (Div m f ∷ rs) h = lows-made n z rs h.1

pub highs-made : (n z : ℕ) (rs : List Row) → AreRowsOver n rs → AreBoundsOver n (highs z rs)
highs-made n z [] h = tt
highs-made n z (Ge f ∷ rs) h = bounds-cond n (is_high z f) _ (highs z rs) (set-within n z f.coefs (pos 0) h.0.0) (highs-made n z rs h.1)
highs-made n z (Eq f ∷ rs) h = highs-made n z rs h.1
highs-made n z (Div m f ∷ rs) h = highs-made n z rs h.1

pub shadows_with-made : (n : ℕ) (low : Bound) (hs : List Bound) → length low.rest.coefs ≤ n → AreBoundsOver n hs → AreRowsOver n (shadows_with low hs)
shadows_with-made n low [] h g = tt
shadows_with-made n low (b ∷ hs) h g = ((mix-within b.size low.rest.coefs low.size b.rest.coefs n h g.0, tt), shadows_with-made n low hs h g.1)

shadows-made : (n : ℕ) (ls hs : List Bound) → AreBoundsOver n ls → AreBoundsOver n hs → AreRowsOver n (shadows ls hs)
shadows-made n [] hs h g = tt
shadows-made n (l ∷ ls) hs h g = append-made n (shadows_with l hs) (shadows ls hs) (shadows_with-made n l hs h.0 g) (shadows-made n ls hs h.1 g)

splinter-made : (n i : ℕ) (k : ℤ) (o : Option Row) (rs : List Row) → AreRowsOver n rs → slice_get rs i ≡ o → AreRowsOver n (splinter k o rs)
splinter-made n i k None rs h e = h
splinter-made n i k (Some (Eq f)) rs h e = h
splinter-made n i k (Some (Div m f)) rs h e = h
splinter-made n i k (Some (Ge f)) rs h e = made-push n rs (Eq (record { konst = f.konst -ℤ k; coefs = f.coefs })) h ((row-made n rs i (Ge f) h e).0, tt)

left_by-made : (n : ℕ) (h : Choice) (rs : List Row) → allows h rs ≡ true → AreRowsOver n rs → AreRowsOver n (left_by h rs)
left_by-made n (choice.Drop z) rs a w = rows_without-made n z rs w
left_by-made n (choice.Equal z i) rs a w = equality-made n z i (slice_get rs i) rs w refl a
left_by-made n (choice.Residue z m r) rs a w = all-substitute_residue n z m r rs w
left_by-made n (choice.Shadow z) rs a w = append-made n (rows_without z rs) _ (rows_without-made n z rs w) (shadows-made n (lows z rs) (highs z rs) (lows-made n z rs w) (highs-made n z rs w))
left_by-made n (choice.Splinter z i k) rs a w = splinter-made n i k (slice_get rs i) rs w refl

pub legal-allows : (h : Choice) (c : Conj) → is_legal h c ≡ true → (nat_lt (column_of h) c.columns ≡ true) × (allows h c.rows ≡ true)
legal-allows h c e = let a = and-true (not (are_absurd c.rows)) (nat_lt (column_of h) c.columns && allows h c.rows) e in and-true (nat_lt (column_of h) c.columns) (allows h c.rows) a.1

pub raw_made : (h : Choice) (c : Conj) → is_legal h c ≡ true → IsWellMade c → IsWellMade (raw h c)
raw_made h c e w = left_by-made c.columns h c.rows (legal-allows h c e).1 w

-- rows that are exactly what a choice leaves
pub left_over : (h : Choice) (c : Conj) (o : Option (List Row)) → is_legal h c ≡ true → IsWellMade c → o ≡ cond (choice_fits h c.rows) (Some (left_by h c.rows)) None → IfSome o (λ rows. AreRowsOver c.columns rows)
left_over h c o e w s = subst (λ (p : Option (List Row)). IfSome p (λ rows. AreRowsOver c.columns rows)) (sym s) (by (choice_fits h c.rows))
  where
    by : (b : Bool) → IfSome (cond b (Some (left_by h c.rows)) None) (λ rows. AreRowsOver c.columns rows)
    by true = raw_made h c e w
    by false = tt
