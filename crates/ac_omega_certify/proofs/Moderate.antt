-- The numbers of rows of which products are at most 2^120: what choices make of them is at most 2^122.
use Rattle.std.proofs.Common.{◌≡◌, ℕ, zero, suc, ◌+◌, ◌*◌, ◌≤◌, ◌^◌, ℤ, pos, negsuc, neg_ℤ, ◌+ℤ◌, ◌*ℤ◌, ◌≤ℤ◌, List, [], ◌∷◌, ◌++◌, map, get_or, ◌⊎◌, inl, inr, set, Bool, true, false, cond, unsigned_abs, refl, arith, mul_comm, mul-le-mul}
use Rattle.std.specs.Prelude.{◌≢◌}
use Rattle.std.specs.Int.{w128}
use Rattle.std.proofs.lemmas.Int.{ints, unsigned_abs-mul, fits_signed_from_abs}
use Rattle.std.specs.Int.Signed.{lt_z}
use Rattle.std.proofs.Math.Nat.{eq-zero_of_zero-dvd}
use Rattle.std.proofs.lemmas.Nat.Gcd.{dvd-zero}
use Rattle.ac_base.specs.Gcd.{content, DividesEach}
use Rattle.ac_base.proofs.Columns.{get_or-mix}
use Rattle.ac_base.proofs.Divisors.{divides_gcd_all}
use Rattle.ac_forms.specs.Affine.{Affine, coef, MixFits}
use Rattle.ac_forms.specs.Fits.{Fits}
use Rattle.ac_forms.specs.FormOrder.{modulus_of}
use Rattle.ac_forms.specs.Rows.{form_of, HasModulus, HaveModuli}
use Rattle.ac_forms.specs.declared.row.Row.{Row}
use Rattle.ac_forms.specs.declared.row.Row.TheVariants.{Eq, Div, Ge}
use Rattle.ac_omega_steps.specs.Bounds.{without}
use Rattle.ac_omega_steps.specs.Choices.{size_of, against, replaced, replaced_row}
use Rattle.ac_omega_certify.specs.TreePathRows.{Blends}
use Rattle.ac_omega_certify.specs.Descents.{IsFormUpTo2To122, IsRowUpTo2To122, AreRowsUpTo2To122}
use Rattle.ac_omega_certify.specs.Refutations.{IsFormWithin, IsRowWithin, AreRowsWithin, AreWithin2To120}
use Rattle.ac_omega_certify.specs.Replacements.{CanReplace, CanReplaceAll, CanDivide}

pub product-size : (x y : ℤ) (p q n : ℕ) → unsigned_abs x ≤ p → unsigned_abs y ≤ q → p * q ≤ n → unsigned_abs (x *ℤ y) ≤ n
product-size x y p q n h k l = let m = mul-le-mul h k in rw unsigned_abs-mul (omega arith)

pub sum_size : (x y : ℤ) → unsigned_abs (x +ℤ y) ≤ unsigned_abs x + unsigned_abs y
sum_size (pos a) (pos b) = omega (arith, ints)
sum_size (pos a) (negsuc b) = omega (arith, ints)
sum_size (negsuc a) (pos b) = omega (arith, ints)
sum_size (negsuc a) (negsuc b) = omega (arith, ints)

pub turned_size : (x : ℤ) → unsigned_abs (neg_ℤ x) ≡ unsigned_abs x
turned_size (pos zero) = refl
turned_size (pos (suc n)) = refl
turned_size (negsuc n) = refl

pub fits_within : (x : ℤ) → unsigned_abs x ≤ 2 ^ 124 → Fits x
fits_within x h = fits_signed_from_abs w128 x (omega arith)

-- a number other than 0 is at least 1, and so is a bound of it
pub some_size : (x : ℤ) → x ≢ pos 0 → 1 ≤ unsigned_abs x
some_size (pos zero) h = absurd (h refl)
some_size (pos (suc n)) h = omega arith
some_size (negsuc n) h = omega arith

pub bounded : (p q n : ℕ) → 1 ≤ p → p * q ≤ n → q ≤ n
bounded p q n h l =
    let o : q ≤ q = omega arith in
    let m = mul-le-mul h o in
    omega arith

-- two products and their sum
pub mix_size : (k x l y : ℤ) (p q : ℕ) → unsigned_abs k ≤ p → unsigned_abs x ≤ q → unsigned_abs l ≤ p → unsigned_abs y ≤ q → p * q ≤ 2 ^ 120 → unsigned_abs (k *ℤ x +ℤ l *ℤ y) ≤ 2 ^ 122
mix_size k x l y p q hk hx hl hy m =
    let a = product-size k x p q (2 ^ 120) hk hx m in
    let b = product-size l y p q (2 ^ 120) hl hy m in
    let s = sum_size (k *ℤ x) (l *ℤ y) in
    omega arith

pub mix_fits : (k x l y : ℤ) (p q : ℕ) → unsigned_abs k ≤ p → unsigned_abs x ≤ q → unsigned_abs l ≤ p → unsigned_abs y ≤ q → p * q ≤ 2 ^ 120 → MixFits k x l y
mix_fits k x l y p q hk hx hl hy m =
    let a = product-size k x p q (2 ^ 120) hk hx m in
    let b = product-size l y p q (2 ^ 120) hl hy m in
    let s = mix_size k x l y p q hk hx hl hy m in
    (fits_within (k *ℤ x) (omega arith), fits_within (l *ℤ y) (omega arith), fits_within (k *ℤ x +ℤ l *ℤ y) (omega arith))

against_size : (c k : ℤ) → unsigned_abs (against c k) ≡ unsigned_abs k
against_size c k = by (lt_z c (pos 0))
  where
    by : (b : Bool) → unsigned_abs (cond b k (neg_ℤ k)) ≡ unsigned_abs k
    by true = refl
    by false = turned_size k

against_within : (c k : ℤ) (p : ℕ) → unsigned_abs k ≤ p → unsigned_abs (against c k) ≤ p
against_within c k p h = rw (against_size c k) h

-- a form where an equality replaces a column
pub replaced-blends : (p q z : ℕ) (f g : Affine) → p * q ≤ 2 ^ 120 → IsFormWithin p q f → IsFormWithin p q g → Blends (size_of (coef z g)) f (against (coef z g) (coef z f)) g
replaced-blends p q z f g m a b = record {
  konst = mix_fits (size_of (coef z g)) f.konst (against (coef z g) (coef z f)) g.konst p q (b.factors z) a.konst (against_within (coef z g) (coef z f) p (a.factors z)) b.konst m;
  coefs = λ j. mix_fits (size_of (coef z g)) (coef j f) (against (coef z g) (coef z f)) (coef j g) p q (b.factors z) (a.coefs j) (against_within (coef z g) (coef z f) p (a.factors z)) (b.coefs j) m;
}

pub replaced-moderate : (p q z : ℕ) (f g : Affine) → p * q ≤ 2 ^ 120 → IsFormWithin p q f → IsFormWithin p q g → IsFormUpTo2To122 (replaced z g f)
replaced-moderate p q z f g m a b = record {
  konst = mix_size (size_of (coef z g)) f.konst (against (coef z g) (coef z f)) g.konst p q (b.factors z) a.konst (against_within (coef z g) (coef z f) p (a.factors z)) b.konst m;
  coefs = λ j. rw (get_or-mix (size_of (coef z g)) f.coefs (against (coef z g) (coef z f)) g.coefs j) (mix_size (size_of (coef z g)) (coef j f) (against (coef z g) (coef z f)) (coef j g) p q (b.factors z) (a.coefs j) (against_within (coef z g) (coef z f) p (a.factors z)) (b.coefs j) m);
}

-- a column that is cleared
pub cleared : (cs : List ℤ) (z j : ℕ) → (get_or (set cs z (pos 0)) j (pos 0) ≡ get_or cs j (pos 0)) ⊎ ((get_or (set cs z (pos 0)) j (pos 0) ≡ pos 0) × (get_or cs j (pos 0) ≡ get_or cs z (pos 0)))
cleared [] z j = inl refl
cleared (c ∷ cs) zero zero = inr (refl, refl)
cleared (c ∷ cs) zero (suc j) = inl refl
cleared (c ∷ cs) (suc z) zero = inl refl
cleared (c ∷ cs) (suc z) (suc j) = cleared cs z j

turned_product : (x : ℤ) → unsigned_abs (neg_ℤ (pos 1) *ℤ x) ≡ unsigned_abs x
turned_product (pos zero) = refl
turned_product (pos (suc n)) = omega (arith, ints)
turned_product (negsuc n) = omega (arith, ints)

once_product : (x : ℤ) → unsigned_abs (pos 1 *ℤ x) ≡ unsigned_abs x
once_product (pos n) = omega (arith, ints)
once_product (negsuc n) = omega (arith, ints)

difference_fits : (x y : ℤ) → unsigned_abs x ≤ 2 ^ 120 → unsigned_abs y ≤ 2 ^ 120 → MixFits (pos 1) x (neg_ℤ (pos 1)) y
difference_fits x y h k =
    let a = once_product x in
    let b = turned_product y in
    let s = sum_size (pos 1 *ℤ x) (neg_ℤ (pos 1) *ℤ y) in
    (fits_within (pos 1 *ℤ x) (omega arith), fits_within (neg_ℤ (pos 1) *ℤ y) (omega arith), fits_within (pos 1 *ℤ x +ℤ neg_ℤ (pos 1) *ℤ y) (omega arith))

pub cleared-size : (z j n : ℕ) (f : Affine) → unsigned_abs (coef j f) ≤ n → unsigned_abs (coef j (without z f)) ≤ n
cleared-size z j n f h = elim (cleared f.coefs z j) [ inl e ↦ rw e h | inr e ↦ rw e.0 (omega arith) ]

-- where the column has a coefficient, no number is greater than 2^120
pub number_small : (p q z : ℕ) (g : Affine) → p * q ≤ 2 ^ 120 → IsFormWithin p q g → coef z g ≢ pos 0 → q ≤ 2 ^ 120
number_small p q z g m b n = bounded p q (2 ^ 120) (let s = some_size (coef z g) n in let l = b.factors z in omega arith) m

factor_small : (p q z : ℕ) (g : Affine) → p * q ≤ 2 ^ 120 → IsFormWithin p q g → coef z g ≢ pos 0 → p ≤ 2 ^ 120
factor_small p q z g m b n = bounded q p (2 ^ 120) (let s = some_size (coef z g) n in let l = b.coefs z in omega arith) (let e = mul_comm p q in omega arith)

pub can-divide : (p q z : ℕ) (g : Affine) → p * q ≤ 2 ^ 120 → IsFormWithin p q g → coef z g ≢ pos 0 → CanDivide z g
can-divide p q z g m b n =
    let l = number_small p q z g m b n in
    let s = some_size (coef z g) n in
    record {
      column = omega (arith, ints, s);
      size = fits_within (size_of (coef z g)) (let h = b.coefs z in omega arith);
      blends = record {
        konst = difference_fits g.konst g.konst (let h = b.konst in omega arith) (let h = b.konst in omega arith);
        coefs = λ j. difference_fits (coef j g) (coef j (without z g)) (let h = b.coefs j in omega arith) (cleared-size z j (2 ^ 120) g (let h = b.coefs j in omega arith));
      };
    }

within_form : (p q : ℕ) (r : Row) → IsRowWithin p q r → IsFormWithin p q (form_of r)
within_form p q (Eq f) h = h
within_form p q (Div m f) h = h.0
within_form p q (Ge f) h = h

within_modulus : (p q : ℕ) (r : Row) → IsRowWithin p q r → unsigned_abs (modulus_of r) ≤ q
within_modulus p q (Eq f) h = omega arith
within_modulus p q (Div m f) h = h.2
within_modulus p q (Ge f) h = omega arith

can-replace : (p q z : ℕ) (g : Affine) (r : Row) → p * q ≤ 2 ^ 120 → IsFormWithin p q g → coef z g ≢ pos 0 → IsRowWithin p q r → HasModulus r → CanReplace z g r
can-replace p q z g r m b n w h =
    let f = within_form p q r w in
    record {
      factor = fits_within _ (let l = factor_small p q z g m b n in let k = against_within (coef z g) (coef z (form_of r)) p (f.factors z) in omega arith);
      blends = replaced-blends p q z (form_of r) g m f b;
      modulus = h;
      product = fits_within (size_of (coef z g) *ℤ modulus_of r) (let k = product-size (size_of (coef z g)) (modulus_of r) p q (2 ^ 120) (b.factors z) (within_modulus p q r w) m in omega arith);
    }

pub can-replace-all : (p q z : ℕ) (g : Affine) (rs : List Row) → p * q ≤ 2 ^ 120 → IsFormWithin p q g → coef z g ≢ pos 0 → AreRowsWithin p q rs → HaveModuli rs → CanReplaceAll z g rs
can-replace-all p q z g [] m b n w h = tt
can-replace-all p q z g (r ∷ rs) m b n w h = (can-replace p q z g r m b n w.0 h.0, can-replace-all p q z g rs m b n w.1 h.1)

-- what is left is at most 2^122
replaced-calm : (p q z : ℕ) (g : Affine) (r : Row) → p * q ≤ 2 ^ 120 → IsFormWithin p q g → IsRowWithin p q r → IsRowUpTo2To122 (replaced_row z g r)
replaced-calm p q z g (Eq f) m b w = inr (replaced-moderate p q z f g m w b)
replaced-calm p q z g (Div d f) m b w = (replaced-moderate p q z f g m w.0 b, (let k = product-size (size_of (coef z g)) d p q (2 ^ 120) (b.factors z) w.2 m in omega arith))
replaced-calm p q z g (Ge f) m b w = inr (replaced-moderate p q z f g m w b)

all-replaced-calm : (p q z : ℕ) (g : Affine) (rs : List Row) → p * q ≤ 2 ^ 120 → IsFormWithin p q g → AreRowsWithin p q rs → AreRowsUpTo2To122 (map (replaced_row z g) rs)
all-replaced-calm p q z g [] m b w = tt
all-replaced-calm p q z g (r ∷ rs) m b w = (replaced-calm p q z g r m b w.0, all-replaced-calm p q z g rs m b w.1)

pub calm-append : (rs ss : List Row) → AreRowsUpTo2To122 rs → AreRowsUpTo2To122 ss → AreRowsUpTo2To122 (rs ++ ss)
calm-append [] ss h g = g
calm-append (r ∷ rs) ss h g = (h.0, calm-append rs ss h.1 g)

rest-calm : (p q z : ℕ) (g : Affine) → p * q ≤ 2 ^ 120 → IsFormWithin p q g → coef z g ≢ pos 0 → IsRowUpTo2To122 (Div (size_of (coef z g)) (without z g))
rest-calm p q z g m b n =
    let l = number_small p q z g m b n in
    (record { konst = (let h = b.konst in omega arith); coefs = λ j. cleared-size z j (2 ^ 122) g (let h = b.coefs j in omega arith) }, (let h = b.coefs z in omega arith))

pub equality-calm : (p q z : ℕ) (g : Affine) (rs : List Row) → p * q ≤ 2 ^ 120 → IsFormWithin p q g → coef z g ≢ pos 0 → AreRowsWithin p q rs → AreRowsUpTo2To122 (map (replaced_row z g) rs ++ Div (size_of (coef z g)) (without z g) ∷ [])
equality-calm p q z g rs m b n w = calm-append (map (replaced_row z g) rs) _ (all-replaced-calm p q z g rs m b w) (rest-calm p q z g m b n, tt)

-- rows within 2^120 are at most 2^122
each_none : (cs : List ℤ) → ((j : ℕ) → get_or cs j (pos 0) ≡ pos 0) → DividesEach 0 cs
each_none [] h = tt
each_none (c ∷ cs) h = (rw (h 0) (dvd-zero 0), each_none cs (λ j. h (suc j)))

content_none : (cs : List ℤ) → ((j : ℕ) → get_or cs j (pos 0) ≡ pos 0) → content cs ≡ 0
content_none cs h = eq-zero_of_zero-dvd (divides_gcd_all 0 0 cs (dvd-zero 0) (each_none cs h))

no_size : (x : ℤ) → unsigned_abs x ≤ 0 → x ≡ pos 0
no_size (pos zero) h = refl
no_size (pos (suc n)) h = absurd (omega arith)
no_size (negsuc n) h = absurd (omega arith)

form-moderate : (p q : ℕ) (f : Affine) → 1 ≤ p → p * q ≤ 2 ^ 120 → IsFormWithin p q f → IsFormUpTo2To122 f
form-moderate p q f o m b =
    let l = bounded p q (2 ^ 120) o m in
    record { konst = (let h = b.konst in omega arith); coefs = λ j. let h = b.coefs j in omega arith }

form-calm : (p q : ℕ) (f : Affine) → p * q ≤ 2 ^ 120 → IsFormWithin p q f → (content f.coefs ≡ 0) ⊎ IsFormUpTo2To122 f
form-calm zero q f m b = inl (content_none f.coefs (λ j. no_size (coef j f) (b.factors j)))
form-calm (suc p) q f m b = inr (form-moderate (suc p) q f (omega arith) m b)

modulus_some : (d : ℤ) (p : ℕ) → pos 1 ≤ℤ d → unsigned_abs d ≤ p → 1 ≤ p
modulus_some (pos n) p h l = omega (arith, ints, h)
modulus_some (negsuc n) p h l = absurd (omega (arith, ints, h))

pub row-calm : (p q : ℕ) (r : Row) → p * q ≤ 2 ^ 120 → IsRowWithin p q r → HasModulus r → IsRowUpTo2To122 r
row-calm p q (Eq f) m w h = form-calm p q f m w
row-calm p q (Div d f) m w h =
    let o = modulus_some d p h w.1 in
    let l = bounded p q (2 ^ 120) o m in
    (form-moderate p q f o m w.0, (let k = w.2 in omega arith))
row-calm p q (Ge f) m w h = form-calm p q f m w

pub rows-calm : (p q : ℕ) (rs : List Row) → p * q ≤ 2 ^ 120 → AreRowsWithin p q rs → HaveModuli rs → AreRowsUpTo2To122 rs
rows-calm p q [] m w h = tt
rows-calm p q (r ∷ rs) m w h = (row-calm p q r m w.0 h.0, rows-calm p q rs m w.1 h.1)

pub modest-calm : (rs : List Row) → AreWithin2To120 rs [] → HaveModuli rs → AreRowsUpTo2To122 rs
modest-calm rs a h = rows-calm a.factor a.number rs a.product a.rows h
