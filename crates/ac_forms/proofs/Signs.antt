-- The change of sign, and the tests of a normal form.
use Rattle.std.proofs.Common.{◌≡◌, ◌↔◌, ℕ, ◌==◌, ◌<◌, Bool, true, false, cond, ℤ, pos, negsuc, ◌*ℤ◌, ◌≤ℤ◌, List, [], ◌∷◌, ◌++◌, map, arith, refl, sym, ap, ◌∙◌, unsigned_abs, int_eq, IsTrue, to_z, of_z}
use Rattle.std.proofs.lemmas.Int.{ints}
use Rattle.std.specs.Int.{int_div_euclid, int_rem_euclid, ◌∣◌, w128}
use Rattle.ac_base.specs.Gcd.{content, gcd_all}
use Rattle.ac_base.specs.Multiple.{IsMultiple, divides}
use Rattle.ac_base.proofs.Bits.{again_128}
use Rattle.ac_base.proofs.Divisors.{divides-true, true-divides}
use Rattle.ac_forms.specs.Fits.{AllFit, Fits}
use Rattle.ac_forms.specs.Affine.{Affine, scaled, FormFits}
use Rattle.ac_forms.specs.NormalRows.{divided, reduced, leads_negative, signed, normal_div, modular_content, sign_numbers}
use Rattle.ac_forms.specs.declared.row.Row.TheVariants.{Div}
use Rattle.ac_forms.specs.declared.normal.NormalRow.{NormalRow}
use Rattle.ac_forms.specs.declared.normal.NormalRow.TheVariants.{Kept, Dropped, Absurd}

pub AllFit-append : (xs ys : List ℤ) → AllFit (xs ++ ys) ↔ (AllFit xs × AllFit ys)
AllFit-append [] ys = ((λ h. (tt, h)), (λ h. h.1))
AllFit-append (x ∷ xs) ys = let r = AllFit-append xs ys in ((λ h. ((h.0, (r.0 h.1).0), (r.0 h.1).1)), (λ h. (h.0.0, r.1 (h.0.1, h.1))))

-- the numbers of the opposite, where the sign changes
pub sign_fits : (f : Affine) → leads_negative f.coefs ≡ true → FormFits (scaled (negsuc 0) f) ↔ AllFit (sign_numbers f)
sign_fits f e =
    let r = AllFit-append (scaled (negsuc 0) f).coefs ((scaled (negsuc 0) f).konst ∷ []) in
    rw e ((λ h. r.1 (h.0, (h.1, tt))), (λ h. let t = r.0 h in (t.0, t.1.0)))

pub signed_is : (f : Affine) → leads_negative f.coefs ≡ true → scaled (negsuc 0) f ≡ signed f
signed_is f e = rw e refl

-- a test and what it says
pub divides_by : (b : Bool) (d : ℕ) (z : ℤ) → IsTrue b ↔ (d ∣ unsigned_abs z) → b ≡ divides d z
divides_by true d z h = sym (true-divides d z (h.0 refl))
divides_by false d z h = by (divides d z) refl
  where
    by : (t : Bool) → divides d z ≡ t → false ≡ divides d z
    by true e = absurd (not_true (h.1 (divides-true d z e)))
      where
        not_true : IsTrue false → ⊥
        not_true e = cc
    by false e = sym e

pub div_kept : (m q : ℤ) (f g : Affine) (h : ℕ) → h ≡ modular_content m f → divides h (int_rem_euclid f.konst m) ≡ true → q ≡ int_div_euclid m (pos h) → (q ≡ pos 1 → ⊥) → g ≡ divided (pos h) (reduced m f)
    → Kept (Div q g) ≡ normal_div m f
div_kept m q f g h eh d eq n eg = rw (← eh, d, ← eq, other q n, eg) refl
  where
    other : (q : ℤ) → (q ≡ pos 1 → ⊥) → int_eq q (pos 1) ≡ false
    other q n = grind (arith, ints)

abbrev again : ℤ → ℤ
again z = to_z w128 (of_z w128 z)

-- the last case, with each number as the code hands it on, by its bits
pub div_made : (m d q k : ℤ) (f rest g : Affine) (cs : List ℤ) (b : Bool) → Fits m → Fits d → Fits q → Fits k
    → rest ≡ reduced (again m) f → cs ≡ rest.coefs → d ≡ pos (gcd_all (unsigned_abs (again m)) cs) → k ≡ rest.konst
    → b ≡ divides (unsigned_abs (again d)) (again k) → b ≡ true → q ≡ int_div_euclid (again m) (again d) → (of_z w128 q ≡ 1 → ⊥) → g ≡ divided (again d) rest
    → Kept (Div (again q) g) ≡ normal_div m f
div_made m d q k f rest g cs b fm fd fq fk er0 ec ed ek eb t eq n eg =
    let er = rw (again_128 m fm) at er0 in
    let d1 = rw (again_128 m fm, ec, er) at ed in
    let b1 = rw (again_128 d fd, again_128 k fk, ek, er, d1) at eb in
    let q1 = rw (again_128 m fm, again_128 d fd, d1) at eq in
    let g1 = rw (again_128 d fd, d1, er) at eg in
    rw (again_128 q fq) (div_kept m q f g (modular_content m f) refl (sym b1 ∙ t) q1 (λ e. n (ap (λ (z : ℤ). of_z w128 z) e)) g1)
