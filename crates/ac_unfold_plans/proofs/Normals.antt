-- The normal form of a row among other columns, which are in the order of its own, is its normal form among these.
use Rattle.std.proofs.Common.{◌≡◌, ℕ, zero, suc, ◌%◌, ◌==◌, ◌≤◌, ◌&&◌, ℤ, pos, negsuc, ◌*ℤ◌, List, [], ◌∷◌, ◌++◌, map, length, Bool, true, false, cond, int_eq, int_le, unsigned_abs, refl, sym, ap, ◌∙◌, arith, Some, None}
use Rattle.std.specs.Prelude.{option_map}
use Rattle.std.specs.Int.{int_div_euclid, int_rem_euclid}
use Rattle.std.proofs.lemmas.Int.{ints}
use Rattle.ac_base.specs.Dot.{floored, residues}
use Rattle.ac_base.specs.Gcd.{content}
use Rattle.ac_base.specs.Multiple.{divides}
use Rattle.ac_forms.specs.Affine.{Affine, scaled}
use Rattle.ac_forms.specs.RowColumns.{trimmed}
use Rattle.ac_forms.specs.Fits.{fits, all_fit}
use Rattle.ac_forms.specs.NormalRows.{trim, trim_onto, divided, reduced, leads_negative, signed, modular_content, normal_row, absolutes, sign_numbers, eq_numbers}
use Rattle.ac_forms.specs.Renaming.{renamed_coefs, renamed, with_form}
use Rattle.ac_forms.specs.Rows.{form_of}
use Rattle.ac_forms.specs.Standing.{normal_of}
use Rattle.ac_forms.specs.RangeTests.{normal_fits}
use Rattle.ac_forms.specs.declared.normal.NormalRow.{NormalRow}
use Rattle.ac_forms.specs.declared.normal.NormalRow.TheVariants.{Kept, Dropped, Absurd}
use Rattle.ac_forms.specs.declared.row.Row.{Row}
use Rattle.ac_forms.specs.declared.row.Row.TheVariants.{Eq, Div, Ge}
use Rattle.ac_forms.proofs.Trimmed.{trim-twice}
use Rattle.ac_claims_plans.proofs.Numbers.{trim-short}
use Rattle.ac_claims_plans.specs.QuestionPaths.{AreRising}
use Rattle.ac_unfold_plans.proofs.Rising.{nonzeros, trim-nonzeros, same-gcd, same-leads, same-fit, same-map, nonzeros-renamed, map-renamed, renamed-trim}

-- ---- one form

-- g is the form f among these columns, whatever zeros stand at its end
pub record IsAmong (ks : List ℕ) (f g : Affine) : Type 0 where
  pub rising : AreRising ks
  pub short : length f.coefs ≤ length ks
  pub konst : g.konst ≡ f.konst
  pub coefs : trim g.coefs ≡ trim (renamed_coefs ks f.coefs)

pub among-of : (ks : List ℕ) (f g : Affine) → AreRising ks → length f.coefs ≤ length ks → trimmed g ≡ trimmed (renamed ks f) → IsAmong ks f g
among-of ks f g h l e = record { rising = h; short = l; konst = ap (λ (x : Affine). x.konst) e; coefs = ap (λ (x : Affine). x.coefs) e }

nonzeros-among : (ks : List ℕ) (f g : Affine) → IsAmong ks f g → nonzeros g.coefs ≡ nonzeros f.coefs
nonzeros-among ks f g a = trim-nonzeros g.coefs (renamed_coefs ks f.coefs) a.coefs ∙ nonzeros-renamed ks f.coefs a.rising a.short

content-among : (ks : List ℕ) (f g : Affine) → IsAmong ks f g → content g.coefs ≡ content f.coefs
content-among ks f g a = same-gcd 0 g.coefs f.coefs (nonzeros-among ks f g a)

length-map : (f : ℤ → ℤ) (cs : List ℤ) → length (map f cs) ≡ length cs
length-map f [] = refl
length-map f (c ∷ cs) = ap suc (length-map f cs)

-- each number by itself
map-among : (f : ℤ → ℤ) → f (pos 0) ≡ pos 0 → (ks : List ℕ) (cs ds : List ℤ) → AreRising ks → trim ds ≡ trim (renamed_coefs ks cs) → trim (map f ds) ≡ trim (renamed_coefs ks (map f cs))
map-among f z ks cs ds h e = same-map f z ds (renamed_coefs ks cs) e ∙ ap trim (map-renamed f z ks cs h)

zero-over : (n : ℕ) → int_div_euclid (pos 0) (pos n) ≡ pos 0
zero-over zero = refl
zero-over (suc n) = ap pos (omega arith)

zero-rest : (m : ℤ) → int_rem_euclid (pos 0) m ≡ pos 0
zero-rest m = ap pos (by (unsigned_abs m))
  where
    by : (n : ℕ) → 0 % n ≡ 0
    by zero = refl
    by (suc n) = omega arith

divided-among : (n m : ℕ) → n ≡ m → (ks : List ℕ) (f g : Affine) → IsAmong ks f g → divided (pos n) g ≡ trimmed (renamed ks (divided (pos m) f))
divided-among n m e ks f g a =
    let same : trim (floored (pos m) g.coefs) ≡ trim (renamed_coefs ks (trim (floored (pos m) f.coefs))) =
    map-among (λ c. int_div_euclid c (pos m)) (zero-over m) ks f.coefs g.coefs a.rising a.coefs ∙ sym (renamed-trim ks (floored (pos m) f.coefs)) in
    ap (λ k. divided (pos k) g) e ∙ (λ i. record { konst = int_div_euclid (a.konst i) (pos m); coefs = same i })

-- the form without zeros at its end, among the columns
among-itself : (ks : List ℕ) (f : Affine) → AreRising ks → length f.coefs ≤ length ks → IsAmong ks f (trimmed (renamed ks f))
among-itself ks f h l = record { rising = h; short = l; konst = refl; coefs = trim-twice (renamed_coefs ks f.coefs) }

-- ---- what is left of a row

abbrev pub among_columns : List ℕ → Row → Row
among_columns ks r = with_form r (trimmed (renamed ks (form_of r)))

abbrev pub left_among_columns : List ℕ → NormalRow → NormalRow
left_among_columns ks (Kept r) = Kept (among_columns ks r)
left_among_columns ks Dropped = Dropped
left_among_columns ks Absurd = Absurd

ge-of : ℕ → ℤ → Affine → NormalRow
ge-of n k f = cond (n == 0) (cond (int_le (pos 0) k) Dropped Absurd) (Kept (Ge f))

ge-left : (ks : List ℕ) (n : ℕ) (k : ℤ) (f : Affine) → ge-of n k (trimmed (renamed ks f)) ≡ left_among_columns ks (ge-of n k f)
unfolding ge-of
ge-left ks n k f = by (n == 0) (int_le (pos 0) k)
  where
    by : (a b : Bool) → cond a (cond b Dropped Absurd) (Kept (Ge (trimmed (renamed ks f)))) ≡ left_among_columns ks (cond a (cond b Dropped Absurd) (Kept (Ge f)))
    by true true = refl
    by true false = refl
    by false b = refl

eq-of : ℕ → ℤ → Affine → NormalRow
eq-of n k f = cond (n == 0) (cond (int_eq k (pos 0)) Dropped Absurd) (cond (divides n k) (Kept (Eq f)) Absurd)

eq-left : (ks : List ℕ) (n : ℕ) (k : ℤ) (f : Affine) → eq-of n k (trimmed (renamed ks f)) ≡ left_among_columns ks (eq-of n k f)
unfolding eq-of
eq-left ks n k f = by (n == 0) (int_eq k (pos 0)) (divides n k)
  where
    by : (a b c : Bool) → cond a (cond b Dropped Absurd) (cond c (Kept (Eq (trimmed (renamed ks f)))) Absurd) ≡ left_among_columns ks (cond a (cond b Dropped Absurd) (cond c (Kept (Eq f)) Absurd))
    by true true c = refl
    by true false c = refl
    by false b true = refl
    by false b false = refl

div-of : ℤ → ℕ → ℤ → Affine → NormalRow
div-of m n k f = cond (divides n (int_rem_euclid k m)) (cond (int_eq (int_div_euclid m (pos n)) (pos 1)) Dropped (Kept (Div (int_div_euclid m (pos n)) f))) Absurd

div-left : (ks : List ℕ) (m : ℤ) (n : ℕ) (k : ℤ) (f : Affine) → div-of m n k (trimmed (renamed ks f)) ≡ left_among_columns ks (div-of m n k f)
unfolding div-of
div-left ks m n k f = by (divides n (int_rem_euclid k m)) (int_eq (int_div_euclid m (pos n)) (pos 1))
  where
    by : (a b : Bool) → cond a (cond b Dropped (Kept (Div (int_div_euclid m (pos n)) (trimmed (renamed ks f))))) Absurd ≡ left_among_columns ks (cond a (cond b Dropped (Kept (Div (int_div_euclid m (pos n)) f))) Absurd)
    by true true = refl
    by true false = refl
    by false b = refl

-- ---- the opposite

opposite-trim : (cs : List ℤ) → map (λ c. negsuc 0 *ℤ c) (trim cs) ≡ trim (map (λ c. negsuc 0 *ℤ c) cs)
opposite-trim [] = refl
opposite-trim (c ∷ cs) = by (trim cs) (opposite-trim cs)
  where
    alone : (b : Bool) → int_eq c (pos 0) ≡ b → map (λ c. negsuc 0 *ℤ c) (cond b [] (c ∷ [])) ≡ trim_onto (negsuc 0 *ℤ c) []
    alone true e = let z : c ≡ pos 0 = grind (arith, ints, e) in rw z refl
    alone false e = let n : int_eq (negsuc 0 *ℤ c) (pos 0) ≡ false = grind (arith, ints, e) in rw n refl

    by : (ds : List ℤ) → map (λ c. negsuc 0 *ℤ c) ds ≡ trim (map (λ c. negsuc 0 *ℤ c) cs) → map (λ c. negsuc 0 *ℤ c) (trim_onto c ds) ≡ trim_onto (negsuc 0 *ℤ c) (trim (map (λ c. negsuc 0 *ℤ c) cs))
    by [] h = alone (int_eq c (pos 0)) refl ∙ ap (trim_onto (negsuc 0 *ℤ c)) h
    by (d ∷ ds) h = ap (trim_onto (negsuc 0 *ℤ c)) h

signed-among : (ks : List ℕ) (f : Affine) → AreRising ks → length f.coefs ≤ length ks → signed (trimmed (renamed ks f)) ≡ trimmed (renamed ks (signed f))
signed-among ks f h l =
    ap (λ b. cond b (scaled (negsuc 0) (trimmed (renamed ks f))) (trimmed (renamed ks f))) (same-leads (trim (renamed_coefs ks f.coefs)) f.coefs (nonzeros-among ks f (trimmed (renamed ks f)) (among-itself ks f h l))) ∙ by (leads_negative f.coefs)
  where
    turned : map (λ c. negsuc 0 *ℤ c) (trim (renamed_coefs ks f.coefs)) ≡ trim (renamed_coefs ks (map (λ c. negsuc 0 *ℤ c) f.coefs))
    turned = opposite-trim (renamed_coefs ks f.coefs) ∙ ap trim (map-renamed (λ c. negsuc 0 *ℤ c) refl ks f.coefs h)

    by : (b : Bool) → cond b (scaled (negsuc 0) (trimmed (renamed ks f))) (trimmed (renamed ks f)) ≡ trimmed (renamed ks (cond b (scaled (negsuc 0) f) f))
    by true = λ i. record { konst = negsuc 0 *ℤ f.konst; coefs = turned i }
    by false = refl

-- ---- normal forms

divided-short : (n : ℕ) (f : Affine) (m : ℕ) → length f.coefs ≤ m → length (divided (pos n) f).coefs ≤ m
divided-short n f m l = let a = trim-short (floored (pos n) f.coefs) in let b = length-map (λ c. int_div_euclid c (pos n)) f.coefs in omega (arith, l, a, b)

reduced-among : (m : ℤ) (ks : List ℕ) (f g : Affine) → IsAmong ks f g → IsAmong ks (reduced m f) (reduced m g)
reduced-among m ks f g a = record {
  rising = a.rising;
  short = let b = length-map (λ c. int_rem_euclid c m) f.coefs in let l = a.short in omega (arith, l, b);
  konst = ap (λ k. int_rem_euclid k m) a.konst;
  coefs = map-among (λ c. int_rem_euclid c m) (zero-rest m) ks f.coefs g.coefs a.rising a.coefs;
}

pub normal-among : (ks : List ℕ) (r : Row) (g : Affine) → IsAmong ks (form_of r) g → normal_row (with_form r g) ≡ left_among_columns ks (normal_row r)
unfolding ge-of eq-of div-of
normal-among ks (Ge f) g a =
    let n = content-among ks f g a in
    let d = divided-among (content g.coefs) (content f.coefs) n ks f g a in
    (λ i. ge-of (n i) (a.konst i) (d i)) ∙ ge-left ks (content f.coefs) f.konst (divided (pos (content f.coefs)) f)
normal-among ks (Eq f) g a =
    let n = content-among ks f g a in
    let d = divided-among (content g.coefs) (content f.coefs) n ks f g a in
    let s = ap signed d ∙ signed-among ks (divided (pos (content f.coefs)) f) a.rising (divided-short (content f.coefs) f (length ks) a.short) in
    (λ i. eq-of (n i) (a.konst i) (s i)) ∙ eq-left ks (content f.coefs) f.konst (signed (divided (pos (content f.coefs)) f))
normal-among ks (Div m f) g a =
    let b = reduced-among m ks f g a in
    let n = same-gcd (unsigned_abs m) (residues m g.coefs) (residues m f.coefs) (nonzeros-among ks (reduced m f) (reduced m g) b) in
    let d = divided-among (modular_content m g) (modular_content m f) n ks (reduced m f) (reduced m g) b in
    (λ i. div-of m (n i) (a.konst i) (d i)) ∙ div-left ks m (modular_content m f) f.konst (divided (pos (modular_content m f)) (reduced m f))

-- ---- normal forms in `i128`

fits-among : (ks : List ℕ) (f g : Affine) → IsAmong ks f g → all_fit (absolutes g.coefs) ≡ all_fit (absolutes f.coefs)
fits-among ks f g a =
    let e = map-among (λ c. pos (unsigned_abs c)) refl ks f.coefs g.coefs a.rising a.coefs in
    let l = length-map (λ c. pos (unsigned_abs c)) f.coefs in
    same-fit (absolutes g.coefs) (absolutes f.coefs)
    (trim-nonzeros (absolutes g.coefs) (renamed_coefs ks (absolutes f.coefs)) e ∙ nonzeros-renamed ks (absolutes f.coefs) a.rising (let s = a.short in omega (arith, l, s)))

fits-both : (xs ys : List ℤ) → all_fit (xs ++ ys) ≡ (all_fit xs && all_fit ys)
fits-both [] ys = refl
fits-both (x ∷ xs) ys = rw (fits-both xs ys) (by (fits x))
  where
    by : (b : Bool) → (b && (all_fit xs && all_fit ys)) ≡ ((b && all_fit xs) && all_fit ys)
    by true = refl
    by false = refl

-- the numbers of the opposite fit where those of the form do
opposite-fits : (ks : List ℕ) (f g : Affine) → IsAmong ks f g → all_fit ((scaled (negsuc 0) g).coefs ++ (scaled (negsuc 0) g).konst ∷ []) ≡ all_fit ((scaled (negsuc 0) f).coefs ++ (scaled (negsuc 0) f).konst ∷ [])
opposite-fits ks f g a =
    let e = map-among (λ c. negsuc 0 *ℤ c) refl ks f.coefs g.coefs a.rising a.coefs in
    let l = length-map (λ c. negsuc 0 *ℤ c) f.coefs in
    let same = same-fit (scaled (negsuc 0) g).coefs (scaled (negsuc 0) f).coefs
    (trim-nonzeros (scaled (negsuc 0) g).coefs (renamed_coefs ks (scaled (negsuc 0) f).coefs) e ∙ nonzeros-renamed ks (scaled (negsuc 0) f).coefs a.rising (let s = a.short in omega (arith, l, s))) in
    fits-both (scaled (negsuc 0) g).coefs ((scaled (negsuc 0) g).konst ∷ [])
    ∙ (λ i. same i && all_fit ((negsuc 0 *ℤ a.konst i) ∷ []))
    ∙ sym (fits-both (scaled (negsuc 0) f).coefs ((scaled (negsuc 0) f).konst ∷ []))

sign-among : (ks : List ℕ) (f g : Affine) → IsAmong ks f g → all_fit (sign_numbers g) ≡ all_fit (sign_numbers f)
sign-among ks f g a =
    ap (λ b. all_fit (cond b ((scaled (negsuc 0) g).coefs ++ (scaled (negsuc 0) g).konst ∷ []) [])) (same-leads g.coefs f.coefs (nonzeros-among ks f g a)) ∙ by (leads_negative f.coefs)
  where
    by : (b : Bool) → all_fit (cond b ((scaled (negsuc 0) g).coefs ++ (scaled (negsuc 0) g).konst ∷ []) []) ≡ all_fit (cond b ((scaled (negsuc 0) f).coefs ++ (scaled (negsuc 0) f).konst ∷ []) [])
    by true = opposite-fits ks f g a
    by false = refl

numbers-of : ℕ → ℤ → Affine → Bool
numbers-of n k f = all_fit (cond (n == 0) [] (cond (divides n k) (sign_numbers f) []))

numbers-among : (n : ℕ) (k : ℤ) (f g : Affine) → all_fit (sign_numbers g) ≡ all_fit (sign_numbers f) → numbers-of n k g ≡ numbers-of n k f
unfolding numbers-of
numbers-among n k f g e = by (n == 0) (divides n k)
  where
    by : (a b : Bool) → all_fit (cond a [] (cond b (sign_numbers g) [])) ≡ all_fit (cond a [] (cond b (sign_numbers f) []))
    by true b = refl
    by false true = e
    by false false = refl

eq-among : (ks : List ℕ) (f g : Affine) → IsAmong ks f g → all_fit (eq_numbers g) ≡ all_fit (eq_numbers f)
unfolding numbers-of
eq-among ks f g a =
    let n = content-among ks f g a in
    let h = divided (pos (content f.coefs)) f in
    let d = divided-among (content g.coefs) (content f.coefs) n ks f g a in
    (λ i. numbers-of (n i) (a.konst i) (d i)) ∙ numbers-among (content f.coefs) f.konst h (trimmed (renamed ks h)) (sign-among ks h (trimmed (renamed ks h)) (among-itself ks h a.rising (divided-short (content f.coefs) f (length ks) a.short)))

pub normal_fits-among : (ks : List ℕ) (r : Row) (g : Affine) → IsAmong ks (form_of r) g → normal_fits (with_form r g) ≡ normal_fits r
normal_fits-among ks (Ge f) g a = fits-among ks f g a
normal_fits-among ks (Eq f) g a = λ i. fits-among ks f g a i && eq-among ks f g a i
normal_fits-among ks (Div m f) g a = refl

pub normal_of-among : (ks : List ℕ) (r : Row) (g : Affine) → IsAmong ks (form_of r) g → normal_of (with_form r g) ≡ option_map (left_among_columns ks) (normal_of r)
normal_of-among ks r g a = (λ i. cond (normal_fits-among ks r g a i) (Some (normal-among ks r g a i)) None) ∙ by (normal_fits r)
  where
    by : (b : Bool) → cond b (Some (left_among_columns ks (normal_row r))) None ≡ option_map (left_among_columns ks) (cond b (Some (normal_row r)) None)
    by true = refl
    by false = refl
