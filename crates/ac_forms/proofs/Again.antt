-- The normal form of a row is its own normal form.
use Rattle.std.proofs.Common.{◌≡◌, ◌⊎◌, inl, inr, ℕ, zero, suc, ◌*◌, ◌/◌, ◌<◌, ◌≤◌, ◌==◌, Bool, true, false, cond, ℤ, pos, negsuc, ◌*ℤ◌, ◌≤ℤ◌, List, [], ◌∷◌, ◌++◌, map, arith, refl, sym, ap, ◌∙◌, subst, unsigned_abs, int_le, int_eq}
use Rattle.std.specs.Int.{◌∣◌, int_div_euclid, int_rem_euclid}
use Rattle.std.specs.Int.Signed.{lt_z}
use Rattle.std.proofs.lemmas.Int.{ints, unsigned_abs-mul}
use Rattle.std.proofs.lemmas.Nat.Gcd.{IsGcd-from_zero, le_of_dvd}
use Rattle.std.proofs.Math.Nat.{mul-div_cancel', pos_of_dvd_of_pos, dvd_of_mul-dvd-mul_left, mul-dvd-mul_left, mod-eq_of_lt, div-lt_iff_lt-mul}
use borrow.Author.Tests.{eqb-false}
use Rattle.ac_base.specs.Dot.{floored, residues}
use Rattle.ac_base.specs.Gcd.{gcd, gcd_all, content, DividesEach}
use Rattle.ac_base.specs.Multiple.{divides}
use Rattle.ac_base.proofs.Divisors.{gcd_is, gcd_all_divides, divides_gcd_all, true-divides}
use Rattle.ac_base.proofs.Floor.{floor_exact, positive_is}
use Rattle.ac_base.proofs.Multiples.{multiple_from}
use Rattle.ac_base.proofs.Residues.{class_of}
use Rattle.ac_forms.specs.Affine.{Affine, scaled}
use Rattle.ac_forms.specs.Fits.{Fits, AllFit}
use Rattle.ac_forms.specs.RowColumns.{IsTrimmed}
use Rattle.ac_forms.specs.NormalRows.{trim, trim_onto, divided, reduced, leads_negative, signed, normal_eq, normal_div, normal_ge, normal_row, modular_content, absolutes, sign_numbers, eq_numbers, NormalFits}
use Rattle.ac_forms.specs.NormalForm.{normal_form}
use Rattle.ac_forms.specs.Rows.{HasModulus, HaveModuli}
use Rattle.ac_forms.specs.ListMembers.{IsAmong}
use Rattle.ac_forms.specs.Traces.{IsLeftOf, HasAbsurd, HasClash}
use Rattle.ac_forms.specs.declared.normal.NormalRow.TheVariants.{Kept, Dropped, Absurd}
use Rattle.ac_forms.specs.declared.row.Row.{Row}
use Rattle.ac_forms.specs.declared.row.Row.TheVariants.{Eq, Div, Ge}
use Rattle.ac_forms.proofs.Sorting.{same_form}
use Rattle.ac_forms.proofs.Traces.{form_trace}
use Rattle.ac_forms.proofs.Trimmed.{trim-twice, kept-trimmed}

-- ---- what is divided by all that its numbers have in common has nothing in common

part_times : (d e : ℕ) (c : ℤ) → 0 < d → d ∣ unsigned_abs c → e ∣ unsigned_abs (int_div_euclid c (pos d)) → (d * e) ∣ unsigned_abs c
part_times d e c l h k =
    let is : unsigned_abs c ≡ d * unsigned_abs (int_div_euclid c (pos d)) = ap unsigned_abs (floor_exact c d l h) ∙ unsigned_abs-mul (pos d) (int_div_euclid c (pos d)) in
    subst (λ (n : ℕ). (d * e) ∣ n) (sym is) (mul-dvd-mul_left e d k)

times_each : (d e : ℕ) (cs : List ℤ) → 0 < d → DividesEach d cs → DividesEach e (floored (pos d) cs) → DividesEach (d * e) cs
times_each d e [] l h k = tt
times_each d e (c ∷ cs) l h k = (part_times d e c l h.0 k.0, times_each d e cs l h.1 k.1)

one_from : (d e : ℕ) → 0 < d → (d * e) ∣ d → e ≡ 1
one_from d e l h =
    let same : d ≡ d * 1 = omega arith in
    let k : e ∣ 1 = dvd_of_mul-dvd-mul_left e l (subst (λ (n : ℕ). (d * e) ∣ n) same h) in
    let low : 0 < e = pos_of_dvd_of_pos k (omega arith) in
    let high : e ≤ 1 = le_of_dvd (omega arith) k in
    omega (arith, low, high)

whole-one : (a b g : ℕ) (cs : List ℤ) → g ≡ gcd_all a cs → 0 < g → a ≡ g * b → gcd_all b (floored (pos g) cs) ≡ 1
whole-one a b g cs eg l ea =
    let e = gcd_all b (floored (pos g) cs) in
    let parts = gcd_all_divides b (floored (pos g) cs) in
    let whole = subst (λ (n : ℕ). DividesEach n cs) (sym eg) (gcd_all_divides a cs).1 in
    let first : (g * e) ∣ a = subst (λ (n : ℕ). (g * e) ∣ n) (sym ea) (mul-dvd-mul_left e g parts.0) in
    let all = divides_gcd_all (g * e) a cs first (times_each g e cs l whole parts.1) in
    one_from g e l (subst (λ (n : ℕ). (g * e) ∣ n) (sym eg) all)

gcd-zero : (d : ℕ) (c : ℤ) → c ≡ pos 0 → gcd d (unsigned_abs c) ≡ d
gcd-zero d c e = rw e (sym (gcd_is d 0 d (IsGcd-from_zero d 0 refl)))

pub zero_test : (c : ℤ) → int_eq c (pos 0) ≡ true → c ≡ pos 0
zero_test c e = grind (arith, ints)

gcd_all-trim : (d : ℕ) (cs : List ℤ) → gcd_all d (trim cs) ≡ gcd_all d cs
gcd_all-trim d [] = refl
gcd_all-trim d (c ∷ cs) = by (trim cs) (gcd_all-trim (gcd d (unsigned_abs c)) cs)
  where
    alone : (b : Bool) → int_eq c (pos 0) ≡ b → gcd_all d (cond b [] (c ∷ [])) ≡ gcd d (unsigned_abs c)
    alone true e = sym (gcd-zero d c (zero_test c e))
    alone false e = refl

    by : (ds : List ℤ) → gcd_all (gcd d (unsigned_abs c)) ds ≡ gcd_all (gcd d (unsigned_abs c)) cs → gcd_all d (trim_onto c ds) ≡ gcd_all (gcd d (unsigned_abs c)) cs
    by [] h = alone (int_eq c (pos 0)) refl ∙ h
    by (x ∷ ds) h = h

-- ---- a form divided by 1

quotient-one : (c : ℤ) → int_div_euclid c (pos 1) ≡ c
quotient-one c = let e = floor_exact c 1 (omega arith) (multiple_from (pos 1) c c (omega (arith, ints))) in omega (arith, ints, e)

floored-one : (cs : List ℤ) → floored (pos 1) cs ≡ cs
floored-one [] = refl
floored-one (c ∷ cs) = ap (λ (x : ℤ). x ∷ floored (pos 1) cs) (quotient-one c) ∙ ap (λ (xs : List ℤ). c ∷ xs) (floored-one cs)

divided-one : (f : Affine) → trim f.coefs ≡ f.coefs → divided (pos 1) f ≡ f
divided-one f e = same_form (divided (pos 1) f) f (quotient-one f.konst) (ap trim (floored-one f.coefs) ∙ e)

divides-one : (c : ℤ) → divides 1 c ≡ true
divides-one c = true-divides 1 c (multiple_from (pos 1) c c (omega (arith, ints)))

positive : (n : ℕ) → (n == 0) ≡ false → 0 < n
positive n e = let k = eqb-false n 0 e in omega (arith, k)

two-ends : (b : Bool) (s : Row) → cond b Dropped Absurd ≡ Kept s → ⊥
two-ends true s e = cc
two-ends false s e = cc

-- ---- inequalities

one-ge : (g : Affine) → content g.coefs ≡ 1 → trim g.coefs ≡ g.coefs → normal_ge g ≡ Kept (Ge g)
one-ge g one t = ap (λ (n : ℕ). cond (n == 0) (cond (int_le (pos 0) g.konst) Dropped Absurd) (Kept (Ge (divided (pos n) g)))) one ∙ ap (λ (h : Affine). Kept (Ge h)) (divided-one g t)

content-divided : (f : Affine) → (content f.coefs == 0) ≡ false → content (divided (pos (content f.coefs)) f).coefs ≡ 1
content-divided f e = gcd_all-trim 0 (floored (pos (content f.coefs)) f.coefs) ∙ whole-one 0 0 (content f.coefs) f.coefs refl (positive (content f.coefs) e) (omega arith)

ge-again : (f : Affine) (s : Row) (b : Bool) → (content f.coefs == 0) ≡ b → cond b (cond (int_le (pos 0) f.konst) Dropped Absurd) (Kept (Ge (divided (pos (content f.coefs)) f))) ≡ Kept s → normal_row s ≡ Kept s
ge-again f s true e h = absurd (two-ends (int_le (pos 0) f.konst) s h)
ge-again f s false e h =
    let k : Ge (divided (pos (content f.coefs)) f) ≡ s = cc in
    subst (λ (r : Row). normal_row r ≡ Kept r) k (one-ge (divided (pos (content f.coefs)) f) (content-divided f e) (trim-twice (floored (pos (content f.coefs)) f.coefs)))

-- ---- equalities

one-eq : (g : Affine) → content g.coefs ≡ 1 → leads_negative g.coefs ≡ false → trim g.coefs ≡ g.coefs → normal_eq g ≡ Kept (Eq g)
one-eq g one lead t =
    ap (λ (n : ℕ). cond (n == 0) (cond (int_eq g.konst (pos 0)) Dropped Absurd) (cond (divides n g.konst) (Kept (Eq (signed (divided (pos n) g)))) Absurd)) one
    ∙ ap (λ (b : Bool). cond b (Kept (Eq (signed (divided (pos 1) g)))) Absurd) (divides-one g.konst)
    ∙ ap (λ (h : Affine). Kept (Eq (signed h))) (divided-one g t)
    ∙ ap (λ (b : Bool). Kept (Eq (cond b (scaled (negsuc 0) g) g))) lead

same-size : (c : ℤ) → unsigned_abs (negsuc 0 *ℤ c) ≡ unsigned_abs c
same-size c = let e = unsigned_abs-mul (negsuc 0) c in omega (arith, e)

gcd_all-opposite : (d : ℕ) (cs : List ℤ) → gcd_all d (map (λ c. negsuc 0 *ℤ c) cs) ≡ gcd_all d cs
gcd_all-opposite d [] = refl
gcd_all-opposite d (c ∷ cs) = ap (λ (n : ℕ). gcd_all (gcd d n) (map (λ c. negsuc 0 *ℤ c) cs)) (same-size c) ∙ gcd_all-opposite (gcd d (unsigned_abs c)) cs

zero-turned : (c : ℤ) → int_eq c (pos 0) ≡ true → int_eq (negsuc 0 *ℤ c) (pos 0) ≡ true
zero-turned c e = rw (zero_test c e) refl

is-false : (x y : ℤ) → (x ≡ y → ⊥) → int_eq x y ≡ false
is-false x y h = grind (arith, ints)

lt-of : (c : ℤ) → lt_z c (pos 0) ≡ true → (c ≤ℤ negsuc 0)
lt-of c e = grind (arith, ints, e)

not-lt : (c : ℤ) → pos 1 ≤ℤ c → lt_z c (pos 0) ≡ false
not-lt c e = grind (arith, ints, e)

leads-opposite : (cs : List ℤ) → leads_negative cs ≡ true → leads_negative (map (λ c. negsuc 0 *ℤ c) cs) ≡ false
leads-opposite [] e = absurd cc
leads-opposite (c ∷ cs) e = by (int_eq c (pos 0)) refl e (λ h. leads-opposite cs h)
  where
    by : (b : Bool) → int_eq c (pos 0) ≡ b → cond b (leads_negative cs) (lt_z c (pos 0)) ≡ true → (leads_negative cs ≡ true → leads_negative (map (λ c. negsuc 0 *ℤ c) cs) ≡ false)
        → cond (int_eq (negsuc 0 *ℤ c) (pos 0)) (leads_negative (map (λ c. negsuc 0 *ℤ c) cs)) (lt_z (negsuc 0 *ℤ c) (pos 0)) ≡ false
    by true i h rest = rw (zero-turned c i) (rest h)
    by false i h rest =
        let low = lt-of c h in
        let up : pos 1 ≤ℤ (negsuc 0 *ℤ c) = omega (arith, ints, low) in
        let n : int_eq (negsuc 0 *ℤ c) (pos 0) ≡ false = is-false (negsuc 0 *ℤ c) (pos 0) (λ z. omega (arith, ints, up, z)) in
        rw n (not-lt (negsuc 0 *ℤ c) up)

record Signed (g : Affine) : Type 0 where
  one : content (signed g).coefs ≡ 1
  leads : leads_negative (signed g).coefs ≡ false

signed-one : (g : Affine) → content g.coefs ≡ 1 → Signed g
signed-one g e = by (leads_negative g.coefs) refl
  where
    by : (b : Bool) → leads_negative g.coefs ≡ b → Signed g
    by true i = record {
      one = ap (λ (b : Bool). content (cond b (scaled (negsuc 0) g) g).coefs) i ∙ gcd_all-opposite 0 g.coefs ∙ e;
      leads = ap (λ (b : Bool). leads_negative (cond b (scaled (negsuc 0) g) g).coefs) i ∙ leads-opposite g.coefs i;
    }
    by false i = record {
      one = ap (λ (b : Bool). content (cond b (scaled (negsuc 0) g) g).coefs) i ∙ e;
      leads = ap (λ (b : Bool). leads_negative (cond b (scaled (negsuc 0) g) g).coefs) i ∙ i;
    }

eq-inner : (f : Affine) (s : Row) (b : Bool) → (content f.coefs == 0) ≡ false → IsTrimmed s → cond b (Kept (Eq (signed (divided (pos (content f.coefs)) f)))) Absurd ≡ Kept s → normal_row s ≡ Kept s
eq-inner f s true e t h =
    let g = divided (pos (content f.coefs)) f in
    let k : Eq (signed g) ≡ s = cc in
    let trimmed = subst (λ (r : Row). IsTrimmed r) (sym k) t in
    let w = signed-one g (content-divided f e) in
    subst (λ (r : Row). normal_row r ≡ Kept r) k (one-eq (signed g) w.one w.leads trimmed)
eq-inner f s false e t h = absurd cc

eq-again : (f : Affine) (s : Row) (b : Bool) → (content f.coefs == 0) ≡ b → IsTrimmed s → cond b (cond (int_eq f.konst (pos 0)) Dropped Absurd) (cond (divides (content f.coefs) f.konst) (Kept (Eq (signed (divided (pos (content f.coefs)) f)))) Absurd) ≡ Kept s → normal_row s ≡ Kept s
eq-again f s true e t h = absurd (two-ends (int_eq f.konst (pos 0)) s h)
eq-again f s false e t h = eq-inner f s (divides (content f.coefs) f.konst) e t h

-- ---- divisibilities

-- one of 0, .., b - 1
Small : ℕ → ℤ → Type 0
Small b c = (i : ℕ) × (i < b) × (c ≡ pos i)

AllSmall : ℕ → List ℤ → Type 0
AllSmall b [] = Unit {0}
AllSmall b (c ∷ cs) = Small b c × AllSmall b cs

small-itself : (b : ℕ) (c : ℤ) → Small b c → int_rem_euclid c (pos b) ≡ c
unfolding Small
small-itself b c h = ap (λ (x : ℤ). int_rem_euclid x (pos b)) h.2 ∙ ap pos (mod-eq_of_lt h.1) ∙ sym h.2

all-itself : (b : ℕ) (cs : List ℤ) → AllSmall b cs → residues (pos b) cs ≡ cs
unfolding AllSmall
all-itself b [] h = refl
all-itself b (c ∷ cs) h = ap (λ (x : ℤ). x ∷ residues (pos b) cs) (small-itself b c h.0) ∙ ap (λ (xs : List ℤ). c ∷ xs) (all-itself b cs h.1)

small-part : (n h b : ℕ) (c : ℤ) → 0 < h → n ≡ h * b → Small n c → Small b (int_div_euclid c (pos h))
unfolding Small
small-part n h b c l e s =
    let less : s.0 < b * h = omega (arith, s.1, e) in
    (s.0 / h, (div-lt_iff_lt-mul l).1 less, ap (λ (x : ℤ). int_div_euclid x (pos h)) s.2)

all-part : (n h b : ℕ) (cs : List ℤ) → 0 < h → n ≡ h * b → AllSmall n cs → AllSmall b (floored (pos h) cs)
unfolding AllSmall
all-part n h b [] l e s = tt
all-part n h b (c ∷ cs) l e s = (small-part n h b c l e s.0, all-part n h b cs l e s.1)

all-trim : (b : ℕ) (cs : List ℤ) → AllSmall b cs → AllSmall b (trim cs)
unfolding AllSmall
all-trim b [] s = tt
all-trim b (c ∷ cs) s = by (trim cs) (all-trim b cs s.1)
  where
    alone : (t : Bool) → AllSmall b (cond t [] (c ∷ []))
    alone true = tt
    alone false = (s.0, tt)

    by : (ds : List ℤ) → AllSmall b ds → AllSmall b (trim_onto c ds)
    by [] h = alone (int_eq c (pos 0))
    by (d ∷ ds) h = (s.0, h)

rest-small : (n : ℕ) (c : ℤ) → 0 < n → Small n (int_rem_euclid c (pos n))
unfolding Small
rest-small n c l = class_of c n l

all-rest : (n : ℕ) (cs : List ℤ) → 0 < n → AllSmall n (residues (pos n) cs)
unfolding AllSmall
all-rest n [] l = tt
all-rest n (c ∷ cs) l = (rest-small n c l, all-rest n cs l)

one-div : (b : ℕ) (g : Affine) → int_eq (pos b) (pos 1) ≡ false → reduced (pos b) g ≡ g → gcd_all b g.coefs ≡ 1 → trim g.coefs ≡ g.coefs → normal_div (pos b) g ≡ Kept (Div (pos b) g)
one-div b g n r one t =
    let content : modular_content (pos b) g ≡ 1 = ap (λ (h : Affine). gcd_all b h.coefs) r ∙ one in
    ap (λ (k : ℕ). cond (divides k (int_rem_euclid g.konst (pos b))) (cond (int_eq (int_div_euclid (pos b) (pos k)) (pos 1)) Dropped (Kept (Div (int_div_euclid (pos b) (pos k)) (divided (pos k) (reduced (pos b) g))))) Absurd) content
    ∙ ap (λ (c : Bool). cond c (cond (int_eq (int_div_euclid (pos b) (pos 1)) (pos 1)) Dropped (Kept (Div (int_div_euclid (pos b) (pos 1)) (divided (pos 1) (reduced (pos b) g))))) Absurd) (divides-one (int_rem_euclid g.konst (pos b)))
    ∙ ap (λ (q : ℤ). cond (int_eq q (pos 1)) Dropped (Kept (Div q (divided (pos 1) (reduced (pos b) g))))) (quotient-one (pos b))
    ∙ ap (λ (c : Bool). cond c Dropped (Kept (Div (pos b) (divided (pos 1) (reduced (pos b) g))))) n
    ∙ ap (λ (h : Affine). Kept (Div (pos b) (divided (pos 1) h))) r
    ∙ ap (λ (h : Affine). Kept (Div (pos b) h)) (divided-one g t)

div-kept : (n : ℕ) (f : Affine) → 0 < n → int_eq (pos (n / modular_content (pos n) f)) (pos 1) ≡ false
    → normal_row (Div (pos (n / modular_content (pos n) f)) (divided (pos (modular_content (pos n) f)) (reduced (pos n) f))) ≡ Kept (Div (pos (n / modular_content (pos n) f)) (divided (pos (modular_content (pos n) f)) (reduced (pos n) f)))
div-kept n f l e =
    let h = modular_content (pos n) f in
    let rs = residues (pos n) f.coefs in
    let g = divided (pos h) (reduced (pos n) f) in
    let d = gcd_all_divides n rs in
    let parts : h * (n / h) ≡ n = mul-div_cancel' h d.0 in
    let up : 0 < h = pos_of_dvd_of_pos d.0 l in
    let small = all-trim (n / h) (floored (pos h) rs) (all-part n h (n / h) rs up (sym parts) (all-rest n f.coefs l)) in
    let konst = small-itself (n / h) (int_div_euclid (int_rem_euclid f.konst (pos n)) (pos h)) (small-part n h (n / h) (int_rem_euclid f.konst (pos n)) up (sym parts) (rest-small n f.konst l)) in
    let same : reduced (pos (n / h)) g ≡ g = same_form (reduced (pos (n / h)) g) g konst (all-itself (n / h) (trim (floored (pos h) rs)) small) in
    let one : gcd_all (n / h) g.coefs ≡ 1 = gcd_all-trim (n / h) (floored (pos h) rs) ∙ whole-one n (n / h) h rs refl up (sym parts) in
    one-div (n / h) g e same one (trim-twice (floored (pos h) rs))

div-inner : (n : ℕ) (f : Affine) (s : Row) (b c : Bool) → 0 < n → int_eq (pos (n / modular_content (pos n) f)) (pos 1) ≡ c
    → cond b (cond c Dropped (Kept (Div (pos (n / modular_content (pos n) f)) (divided (pos (modular_content (pos n) f)) (reduced (pos n) f))))) Absurd ≡ Kept s → normal_row s ≡ Kept s
div-inner n f s false c l e h = absurd cc
div-inner n f s true true l e h = absurd cc
div-inner n f s true false l e h =
    let k : Div (pos (n / modular_content (pos n) f)) (divided (pos (modular_content (pos n) f)) (reduced (pos n) f)) ≡ s = cc in
    subst (λ (r : Row). normal_row r ≡ Kept r) k (div-kept n f l e)

div-again : (m : ℤ) (f : Affine) (s : Row) → pos 1 ≤ℤ m → normal_div m f ≡ Kept s → normal_row s ≡ Kept s
div-again m f s l h =
    let p = positive_is m l in
    div-inner p.0 f s (divides (modular_content (pos p.0) f) (int_rem_euclid f.konst (pos p.0))) (int_eq (pos (p.0 / modular_content (pos p.0) f)) (pos 1)) p.1 refl (subst (λ (x : ℤ). normal_div x f ≡ Kept s) p.2 h)

pub kept-again : (r s : Row) → HasModulus r → normal_row r ≡ Kept s → normal_row s ≡ Kept s
kept-again (Eq f) s m e = eq-again f s (content f.coefs == 0) refl (kept-trimmed (Eq f) s e) e
kept-again (Div k f) s m e = div-again k f s m e
kept-again (Ge f) s m e = ge-again f s (content f.coefs == 0) refl e

-- ---- rows of a normal form

left-again : (r : Row) (xs : List Row) → HaveModuli xs → IsLeftOf r xs → normal_row r ≡ Kept r
left-again r [] m h = absurd h
left-again r (x ∷ xs) m (inl e) = kept-again x r m.0 e
left-again r (x ∷ xs) m (inr h) = left-again r xs m.1 h

pub form-again : (xs : List Row) (r : Row) → HaveModuli xs → IsAmong r (normal_form xs) → HasAbsurd xs ⊎ HasClash xs ⊎ (normal_row r ≡ Kept r)
form-again xs r m h = by (form_trace xs r h)
  where
    by : HasAbsurd xs ⊎ HasClash xs ⊎ IsLeftOf r xs → HasAbsurd xs ⊎ HasClash xs ⊎ (normal_row r ≡ Kept r)
    by (inl a) = inl a
    by (inr (inl c)) = inr (inl c)
    by (inr (inr l)) = inr (inr (left-again r xs m l))

-- ---- and that is made in `i128`

fits-less : (a b : ℕ) → b ≤ a → Fits (pos a) → Fits (pos b)
fits-less a b l h = let k = h.sfits in record { sfits = omega (arith, l, k) }

part-less : (d : ℕ) (c : ℤ) → 0 < d → d ∣ unsigned_abs c → unsigned_abs (int_div_euclid c (pos d)) ≤ unsigned_abs c
part-less d c l h =
    let is : unsigned_abs c ≡ d * unsigned_abs (int_div_euclid c (pos d)) = ap unsigned_abs (floor_exact c d l h) ∙ unsigned_abs-mul (pos d) (int_div_euclid c (pos d)) in
    times-less d (unsigned_abs (int_div_euclid c (pos d))) (unsigned_abs c) l is
  where
    times-less : (d q n : ℕ) → 0 < d → n ≡ d * q → q ≤ n
    times-less zero q n l e = absurd (omega arith)
    times-less (suc d) q n l e = omega (arith, e)

floored-fit : (d : ℕ) (cs : List ℤ) → 0 < d → DividesEach d cs → AllFit (absolutes cs) → AllFit (absolutes (floored (pos d) cs))
floored-fit d [] l h f = tt
floored-fit d (c ∷ cs) l h f = (fits-less (unsigned_abs c) (unsigned_abs (int_div_euclid c (pos d))) (part-less d c l h.0) f.0, floored-fit d cs l h.1 f.1)

trim-fit : (cs : List ℤ) → AllFit (absolutes cs) → AllFit (absolutes (trim cs))
trim-fit [] f = tt
trim-fit (c ∷ cs) f = by (trim cs) (trim-fit cs f.1)
  where
    alone : (t : Bool) → AllFit (absolutes (cond t [] (c ∷ [])))
    alone true = tt
    alone false = (f.0, tt)

    by : (ds : List ℤ) → AllFit (absolutes ds) → AllFit (absolutes (trim_onto c ds))
    by [] h = alone (int_eq c (pos 0))
    by (d ∷ ds) h = (f.0, h)

divided-fit : (f : Affine) → (content f.coefs == 0) ≡ false → AllFit (absolutes f.coefs) → AllFit (absolutes (divided (pos (content f.coefs)) f).coefs)
divided-fit f e h = trim-fit (floored (pos (content f.coefs)) f.coefs) (floored-fit (content f.coefs) f.coefs (positive (content f.coefs) e) (gcd_all_divides 0 f.coefs).1 h)

ge-fits : (f : Affine) (s : Row) (b : Bool) → (content f.coefs == 0) ≡ b → AllFit (absolutes f.coefs) → cond b (cond (int_le (pos 0) f.konst) Dropped Absurd) (Kept (Ge (divided (pos (content f.coefs)) f))) ≡ Kept s → NormalFits s
ge-fits f s true e a h = absurd (two-ends (int_le (pos 0) f.konst) s h)
ge-fits f s false e a h =
    let k : Ge (divided (pos (content f.coefs)) f) ≡ s = cc in
    subst (λ (r : Row). NormalFits r) k (divided-fit f e a)

opposite-sizes : (cs : List ℤ) → absolutes (map (λ c. negsuc 0 *ℤ c) cs) ≡ absolutes cs
opposite-sizes [] = refl
opposite-sizes (c ∷ cs) = ap (λ (n : ℕ). pos n ∷ absolutes (map (λ c. negsuc 0 *ℤ c) cs)) (same-size c) ∙ ap (λ (xs : List ℤ). pos (unsigned_abs c) ∷ xs) (opposite-sizes cs)

signed-fit : (g : Affine) → AllFit (absolutes g.coefs) → AllFit (absolutes (signed g).coefs)
signed-fit g h = by (leads_negative g.coefs)
  where
    by : (b : Bool) → AllFit (absolutes (cond b (scaled (negsuc 0) g) g).coefs)
    by true = subst AllFit (sym (opposite-sizes g.coefs)) h
    by false = h

no-numbers : (g : Affine) → content g.coefs ≡ 1 → leads_negative g.coefs ≡ false → trim g.coefs ≡ g.coefs → eq_numbers g ≡ []
no-numbers g one lead t =
    ap (λ (n : ℕ). cond (n == 0) [] (cond (divides n g.konst) (sign_numbers (divided (pos n) g)) [])) one
    ∙ ap (λ (b : Bool). cond b (sign_numbers (divided (pos 1) g)) []) (divides-one g.konst)
    ∙ ap sign_numbers (divided-one g t)
    ∙ ap (λ (b : Bool). cond b ((scaled (negsuc 0) g).coefs ++ (scaled (negsuc 0) g).konst ∷ []) []) lead

eq-inner-fits : (f : Affine) (s : Row) (b : Bool) → (content f.coefs == 0) ≡ false → IsTrimmed s → AllFit (absolutes f.coefs) → cond b (Kept (Eq (signed (divided (pos (content f.coefs)) f)))) Absurd ≡ Kept s → NormalFits s
eq-inner-fits f s true e t a h =
    let g = divided (pos (content f.coefs)) f in
    let k : Eq (signed g) ≡ s = cc in
    let trimmed = subst (λ (r : Row). IsTrimmed r) (sym k) t in
    let w = signed-one g (content-divided f e) in
    subst (λ (r : Row). NormalFits r) k (signed-fit g (divided-fit f e a), subst AllFit (sym (no-numbers (signed g) w.one w.leads trimmed)) tt)
eq-inner-fits f s false e t a h = absurd cc

eq-fits : (f : Affine) (s : Row) (b : Bool) → (content f.coefs == 0) ≡ b → IsTrimmed s → AllFit (absolutes f.coefs) → cond b (cond (int_eq f.konst (pos 0)) Dropped Absurd) (cond (divides (content f.coefs) f.konst) (Kept (Eq (signed (divided (pos (content f.coefs)) f)))) Absurd) ≡ Kept s → NormalFits s
eq-fits f s true e t a h = absurd (two-ends (int_eq f.konst (pos 0)) s h)
eq-fits f s false e t a h = eq-inner-fits f s (divides (content f.coefs) f.konst) e t a h

div-cases : (b c : Bool) (m : ℤ) (g : Affine) (s : Row) → cond b (cond c Dropped (Kept (Div m g))) Absurd ≡ Kept s → NormalFits s
div-cases true true m g s h = absurd cc
div-cases true false m g s h = let k : Div m g ≡ s = cc in subst (λ (r : Row). NormalFits r) k tt
div-cases false c m g s h = absurd cc

pub kept-fits : (r s : Row) → NormalFits r → normal_row r ≡ Kept s → NormalFits s
kept-fits (Eq f) s a e = eq-fits f s (content f.coefs == 0) refl (kept-trimmed (Eq f) s e) a.0 e
kept-fits (Div m f) s a e = div-cases (divides (modular_content m f) (int_rem_euclid f.konst m)) (int_eq (int_div_euclid m (pos (modular_content m f))) (pos 1)) (int_div_euclid m (pos (modular_content m f))) (divided (pos (modular_content m f)) (reduced m f)) s e
kept-fits (Ge f) s a e = ge-fits f s (content f.coefs == 0) refl a e
