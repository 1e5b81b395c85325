-- The normal form of an inequality in normal form is itself.
use Rattle.std.proofs.Common.{◌≡◌, ℕ, zero, suc, ◌*◌, ◌<◌, ◌≤◌, ◌==◌, ℤ, pos, negsuc, List, [], ◌∷◌, unsigned_abs, Bool, true, false, cond, int_eq, int_le, arith, refl, ap, ◌∙◌, subst}
use Rattle.std.specs.Int.{◌∣◌, int_div_euclid}
use Rattle.std.proofs.lemmas.Int.{ints, unsigned_abs-mul}
use Rattle.std.proofs.lemmas.Nat.Gcd.{le_of_dvd, dvd-zero, IsGcd-from_zero}
use Rattle.std.proofs.Math.Nat.{mul-dvd-mul_left, eq-zero_of_zero-dvd}
use borrow.Author.Tests.{eqb-false}
use Rattle.ac_base.specs.Dot.{floored}
use Rattle.ac_base.specs.Gcd.{gcd, gcd_all, content, DividesEach}
use Rattle.ac_base.proofs.Divisors.{gcd_is, gcd_all_divides, divides_gcd_all}
use Rattle.ac_base.proofs.Floor.{floor_exact}
use Rattle.ac_forms.specs.Affine.{Affine}
use Rattle.ac_forms.specs.NormalRows.{trim, trim_onto, divided, normal_row, normal_ge}
use Rattle.ac_forms.proofs.Trimmed.{trim-twice}
use Rattle.ac_forms.specs.declared.normal.NormalRow.TheVariants.{Kept, Dropped, Absurd}
use Rattle.ac_forms.specs.declared.row.Row.{Row}
use Rattle.ac_forms.specs.declared.row.Row.TheVariants.{Ge}

-- zeros at the end divide nothing out
zero-int : (c : ℤ) → int_eq c (pos 0) ≡ true → c ≡ pos 0
zero-int c e = grind (arith, ints)

gcd_all-onto : (d : ℕ) (c : ℤ) (cs : List ℤ) → gcd_all d (trim_onto c cs) ≡ gcd_all (gcd d (unsigned_abs c)) cs
gcd_all-onto d c (x ∷ cs) = refl
gcd_all-onto d c [] = by (int_eq c (pos 0)) refl
  where
    by : (t : Bool) → int_eq c (pos 0) ≡ t → gcd_all d (cond t [] (c ∷ [])) ≡ gcd d (unsigned_abs c)
    by false e = refl
    by true e = rw (zero-int c e) (gcd_is d 0 d (IsGcd-from_zero d 0 refl))

gcd_all-trim : (d : ℕ) (cs : List ℤ) → gcd_all d (trim cs) ≡ gcd_all d cs
gcd_all-trim d [] = refl
gcd_all-trim d (c ∷ cs) = gcd_all-onto d c (trim cs) ∙ gcd_all-trim (gcd d (unsigned_abs c)) cs

-- a divisor of each quotient, times the number, divides each
times-divides : (k e : ℕ) (cs : List ℤ) → 0 < k → DividesEach k cs → DividesEach e (floored (pos k) cs) → DividesEach (k * e) cs
times-divides k e [] h d f = tt
times-divides k e (c ∷ cs) h d f = (one c d.0 f.0, times-divides k e cs h d.1 f.1)
  where
    one : (c : ℤ) → k ∣ unsigned_abs c → e ∣ unsigned_abs (int_div_euclid c (pos k)) → k * e ∣ unsigned_abs c
    one c d f =
        let q = int_div_euclid c (pos k) in
        let is : unsigned_abs c ≡ k * unsigned_abs q = ap unsigned_abs (floor_exact c k h d) ∙ unsigned_abs-mul (pos k) q in
        rw is (mul-dvd-mul_left e k f)

one-left : (k e : ℕ) → 0 < k → k * e ≤ k → (e ≡ 0 → ⊥) → e ≡ 1
one-left k zero h l n = absurd (n refl)
one-left k (suc zero) h l n = refl
one-left k (suc (suc e)) h l n = absurd (omega (arith, l, h, more k e))
  where
    more : (k e : ℕ) → k * 2 ≤ k * suc (suc e)
    more k zero = omega arith
    more k (suc e) = let m = more k e in omega (arith, m)

content-one : (cs : List ℤ) → 0 < content cs → content (floored (pos (content cs)) cs) ≡ 1
content-one cs h =
    let k = content cs in
    let e = content (floored (pos k) cs) in
    let each = times-divides k e cs h (gcd_all_divides 0 cs).1 (gcd_all_divides 0 (floored (pos k) cs)).1 in
    let d : k * e ∣ k = divides_gcd_all (k * e) 0 cs (dvd-zero (k * e)) each in
    one-left k e h (le_of_dvd h d) (λ z. let n : k * e ≡ 0 = rw z (omega arith) in let o : k ≡ 0 = eq-zero_of_zero-dvd (subst (λ (x : ℕ). x ∣ k) n d) in omega (arith, o, h))

floor-one : (c : ℤ) → int_div_euclid c (pos 1) ≡ c
floor-one (pos n) = omega (arith, ints)
floor-one (negsuc n) = omega (arith, ints)

floored-one : (cs : List ℤ) → floored (pos 1) cs ≡ cs
floored-one [] = refl
floored-one (c ∷ cs) = rw (floor-one c, floored-one cs) refl

divided-one : (f : Affine) (d : ℤ) → divided (pos 1) (divided d f) ≡ divided d f
divided-one f d =
    let cs : trim (floored (pos 1) (trim (floored d f.coefs))) ≡ trim (floored d f.coefs) = rw (floored-one (trim (floored d f.coefs))) (trim-twice (floored d f.coefs)) in
    let k = floor-one (int_div_euclid f.konst d) in
    λ i. record { konst = k i; coefs = cs i }

-- what is left of an inequality leaves itself
pub again-ge : (f : Affine) → (content f.coefs == 0) ≡ false → normal_ge (divided (pos (content f.coefs)) f) ≡ Kept (Ge (divided (pos (content f.coefs)) f))
again-ge f e =
    let n = eqb-false _ _ e in
    let c : content (divided (pos (content f.coefs)) f).coefs ≡ 1 = gcd_all-trim 0 (floored (pos (content f.coefs)) f.coefs) ∙ content-one f.coefs (omega (arith, n)) in
    rw c (ap (λ (g : Affine). Kept (Ge g)) (divided-one f (pos (content f.coefs))))

-- so for whatever is left
pub kept-again : (f : Affine) (r : Row) → normal_ge f ≡ Kept r → normal_row r ≡ Kept r
kept-again f r e = by (content f.coefs == 0) (int_le (pos 0) f.konst) refl e
  where
    by : (t u : Bool) → (content f.coefs == 0) ≡ t → cond t (cond u Dropped Absurd) (Kept (Ge (divided (pos (content f.coefs)) f))) ≡ Kept r → normal_row r ≡ Kept r
    by true true c e = absurd cc
    by true false c e = absurd cc
    by false u c e = let s : Ge (divided (pos (content f.coefs)) f) ≡ r = cc in subst (λ (x : Row). normal_row x ≡ Kept x) s (again-ge f c)
