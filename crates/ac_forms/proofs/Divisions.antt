-- What a division by 0 or 1 gives.
use Rattle.std.proofs.Common.{◌≡◌, ℕ, ℤ, pos, negsuc, List, [], ◌∷◌, refl, ap, sym, ◌∙◌, to_z, of_z}
use Rattle.std.specs.Int.{int_div_euclid, w128}
use Rattle.ac_base.proofs.Bits.{again_128}
use Rattle.ac_forms.specs.Fits.{Fits}
use Rattle.ac_base.specs.Dot.{floored}
use Rattle.ac_base.specs.Gcd.{gcd}
use Rattle.ac_base.proofs.Divisors.{gcd_is}
use Rattle.std.proofs.lemmas.Nat.Gcd.{IsGcd-from_zero, dvd-zero, dvd_refl}
use Rattle.std.proofs.Math.Nat.{one-dvd, div-one}
use Rattle.ac_forms.specs.Affine.{Affine}
use Rattle.ac_forms.specs.NormalRows.{divided, trim}

pub gcd_at_zero : (a b : ℕ) → b ≡ 0 → a ≡ gcd a b
gcd_at_zero a b e = rw e (gcd_is a 0 a (IsGcd-from_zero a 0 refl))

pub gcd_of_zero : (a b : ℕ) → a ≡ 0 → b ≡ gcd a b
gcd_of_zero a b e = rw e (gcd_is 0 b b (dvd-zero b, dvd_refl b, λ d h g. g))

pub gcd_of_one : (a b : ℕ) → a ≡ 1 → a ≡ gcd a b
gcd_of_one a b e = rw e (gcd_is 1 b 1 (dvd_refl 1, one-dvd b, λ d h g. h))

pub gcd_at_one : (a b : ℕ) → b ≡ 1 → b ≡ gcd a b
gcd_at_one a b e = rw e (gcd_is a 1 1 (one-dvd a, dvd_refl 1, λ d h g. g))

quotient_by_one : (z : ℤ) → int_div_euclid z (pos 1) ≡ z
quotient_by_one (pos n) = ap pos (div-one n)
quotient_by_one (negsuc n) = ap negsuc (div-one n)

floored_by_one : (cs : List ℤ) → floored (pos 1) cs ≡ cs
floored_by_one [] = refl
floored_by_one (c ∷ cs) = ap (λ (z : ℤ). z ∷ floored (pos 1) cs) (quotient_by_one c) ∙ ap (λ (zs : List ℤ). c ∷ zs) (floored_by_one cs)

-- the form divided by 1 is the form without zeros at its end
pub divided_by_one : (d : ℤ) (f : Affine) → d ≡ pos 1 → record { konst = f.konst; coefs = trim f.coefs } ≡ divided d f
divided_by_one d f e = rw (e, quotient_by_one f.konst, floored_by_one f.coefs) refl

-- the quotient as the code hands it on, by its bits
pub quotient_made : (d k : ℤ) (cs : List ℤ) (f t : Affine) → Fits d → Fits k → of_z w128 d ≡ 1 → k ≡ f.konst → cs ≡ f.coefs → t ≡ record { konst = to_z w128 (of_z w128 k); coefs = trim cs } → t ≡ divided d f
quotient_made d k cs f t fd fk e ek ec et =
    let one : d ≡ pos 1 = sym (again_128 d fd) ∙ ap (λ n. to_z w128 n) e in
    (rw (again_128 k fk, ek, ec) at et) ∙ divided_by_one d f one
