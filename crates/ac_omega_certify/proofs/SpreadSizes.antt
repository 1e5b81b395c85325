-- The numbers of the rows that a residue leaves, from those of rows within 2^120.
use Rattle.std.proofs.Common.{◌≡◌, ℕ, zero, suc, ◌+◌, ◌*◌, ◌^◌, ◌<◌, ◌≤◌, ℤ, pos, negsuc, neg_ℤ, ◌+ℤ◌, ◌*ℤ◌, ◌≤ℤ◌, ◌<ℤ◌, List, [], ◌∷◌, map, set, get_or, inr, unsigned_abs, refl, arith, mul-le-mul}
use Rattle.std.specs.Int.{w128}
use Rattle.std.proofs.lemmas.Int.{ints, unsigned_abs-mul, fits_signed_from_abs}
use Rattle.ac_forms.specs.Affine.{Affine, coef, MixFits}
use Rattle.ac_forms.specs.Fits.{Fits}
use Rattle.ac_forms.specs.Rows.{form_of, AreRowsOver}
use Rattle.ac_forms.specs.declared.row.Row.{Row}
use Rattle.ac_forms.specs.declared.row.Row.TheVariants.{Eq, Div, Ge}
use Rattle.ac_omega_steps.specs.declared.choose.Choice.TheVariants.{Residue}
use Rattle.ac_omega_steps.specs.Choices.{substitute_residue, substitute_residue_row}
use Rattle.ac_omega_certify.specs.Descents.{AreRowsUpTo2To122, IsRowUpTo2To122, IsFormUpTo2To122}
use Rattle.ac_omega_certify.specs.Refutations.{AreWithin2To120, AreRowsWithin, IsFormWithin, IsRowWithin}
use Rattle.ac_omega_certify.specs.Residues.{quotient_form, AreSmall, AllCanTake}
use Rattle.ac_omega_certify.specs.TreePathRows.{Blends}
use Rattle.ac_omega_certify.proofs.Places.{is-or-not}
use Rattle.ac_omega_certify.proofs.Spreading.{quotient-at, quotient-further, quotient-off}

-- ---- sizes

turned_size : (x : ℤ) → unsigned_abs (neg_ℤ x) ≡ unsigned_abs x
turned_size (pos zero) = refl
turned_size (pos (suc n)) = refl
turned_size (negsuc n) = refl

sum_size : (x y : ℤ) → unsigned_abs (x +ℤ y) ≤ unsigned_abs x + unsigned_abs y
sum_size (pos a) (pos b) = omega (arith, ints)
sum_size (pos a) (negsuc b) = omega (arith, ints)
sum_size (negsuc a) (pos b) = omega (arith, ints)
sum_size (negsuc a) (negsuc b) = omega (arith, ints)

once_size : (x : ℤ) → unsigned_abs (pos 1 *ℤ x) ≡ unsigned_abs x
once_size (pos n) = omega (arith, ints)
once_size (negsuc n) = omega (arith, ints)

product_size : (x y : ℤ) (p q n : ℕ) → unsigned_abs x ≤ q → unsigned_abs y ≤ p → p * q ≤ n → unsigned_abs (x *ℤ y) ≤ n
product_size x y p q n h k l = let m = mul-le-mul k h in rw unsigned_abs-mul (omega arith)

fits_within : (x : ℤ) → unsigned_abs x ≤ 2 ^ 122 → Fits x
fits_within x h = fits_signed_from_abs w128 x (omega arith)

-- a number less a product
take_fits : (x a y : ℤ) (p q : ℕ) → unsigned_abs x ≤ q → unsigned_abs a ≤ q → unsigned_abs y ≤ p → p * q ≤ 2 ^ 120 → q ≤ 2 ^ 120 → MixFits (pos 1) x (neg_ℤ a) y
take_fits x a y p q hx ha hy l b =
    let t : unsigned_abs (neg_ℤ a) ≤ q = rw (turned_size a) ha in
    let o = once_size x in
    let m = product_size (neg_ℤ a) y p q (2 ^ 120) t hy l in
    let s = sum_size (pos 1 *ℤ x) (neg_ℤ a *ℤ y) in
    (fits_within (pos 1 *ℤ x) (omega arith), fits_within (neg_ℤ a *ℤ y) (omega arith), fits_within (pos 1 *ℤ x +ℤ neg_ℤ a *ℤ y) (omega arith))

bounded : (p q n : ℕ) → 1 ≤ p → p * q ≤ n → q ≤ n
bounded p q n h l =
    let o : q ≤ q = omega arith in
    let m = mul-le-mul h o in
    omega arith

some_size : (m : ℤ) (p : ℕ) → pos 1 ≤ℤ m → unsigned_abs m ≤ p → 1 ≤ p
some_size (pos n) p h l = omega (arith, ints, h, l)
some_size (negsuc n) p h l = absurd (omega (arith, ints, h))

rest_size : (m r : ℤ) (p : ℕ) → pos 0 ≤ℤ r → r <ℤ m → unsigned_abs m ≤ p → unsigned_abs r ≤ p
rest_size (pos m) (pos r) p h k l = omega (arith, ints, k, l)
rest_size (pos m) (negsuc r) p h k l = absurd (omega (arith, ints, h))
rest_size (negsuc m) (pos r) p h k l = absurd (omega (arith, ints, k))
rest_size (negsuc m) (negsuc r) p h k l = absurd (omega (arith, ints, h))

-- what bounds the numbers of rows whose column is replaced by m times another plus r
pub record IsBound (p q : ℕ) (m r : ℤ) : Type 0 where
  pub some : 1 ≤ p
  pub product : p * q ≤ 2 ^ 120
  pub number : q ≤ 2 ^ 120
  pub modulus : unsigned_abs m ≤ p
  pub rest : unsigned_abs r ≤ p

pub residue-bound : (z : ℕ) (m r : ℤ) (rs : List Row) → (h : AreWithin2To120 rs (Residue z m r ∷ [])) → pos 1 ≤ℤ m → pos 0 ≤ℤ r → r <ℤ m → IsBound h.factor h.number m r
residue-bound z m r rs h one low high =
    let some : 1 ≤ h.factor = some_size m h.factor one h.moduli.0 in
    record {
      some = some;
      product = h.product;
      number = bounded h.factor h.number (2 ^ 120) some h.product;
      modulus = h.moduli.0;
      rest = rest_size m r h.factor low high h.moduli.0;
    }

zero_size : (r : ℤ) → pos 0 +ℤ neg_ℤ r ≡ neg_ℤ r
zero_size r = omega (arith, ints)

quotient_size : (n z : ℕ) (m r : ℤ) (p j : ℕ) → z < n → unsigned_abs m ≤ p → 1 ≤ p → unsigned_abs (coef j (quotient_form n z m r)) ≤ p
quotient_size n z m r p j l h one = is-or-not j n
    (λ is. rw (is, quotient-further n z m r l, turned_size m) h)
    (λ off. is-or-not j z
    (λ is. rw (is, quotient-at n z m r l) one)
    (λ too. rw (quotient-off n z j m r l off too) (omega arith)))

takes : (p q n z : ℕ) (m r : ℤ) (f : Affine) → z < n → IsBound p q m r → IsFormWithin p q f → Blends (pos 1) f (neg_ℤ (coef z f)) (quotient_form n z m r)
takes p q n z m r f l b h = record {
  konst = take_fits f.konst (coef z f) (pos 0 +ℤ neg_ℤ r) p q h.konst (h.coefs z) (rw (zero_size r, turned_size r) b.rest) b.product b.number;
  coefs = λ j. take_fits (coef j f) (coef z f) (coef j (quotient_form n z m r)) p q (h.coefs j) (h.coefs z) (quotient_size n z m r p j l b.modulus b.some) b.product b.number;
}

set_size : (cs : List ℤ) (z j : ℕ) (v : ℤ) (n : ℕ) → unsigned_abs v ≤ n → unsigned_abs (get_or cs j (pos 0)) ≤ n → unsigned_abs (get_or (set cs z v) j (pos 0)) ≤ n
set_size [] z j v n h k = k
set_size (c ∷ cs) zero zero v n h k = h
set_size (c ∷ cs) zero (suc j) v n h k = k
set_size (c ∷ cs) (suc z) zero v n h k = k
set_size (c ∷ cs) (suc z) (suc j) v n h k = set_size cs z j v n h k

spread_moderate : (p q z : ℕ) (m r : ℤ) (f : Affine) → IsBound p q m r → IsFormWithin p q f → IsFormUpTo2To122 (substitute_residue z m r f)
spread_moderate p q z m r f b h = record {
  konst =
      let s = sum_size f.konst (coef z f *ℤ r) in
      let t = product_size (coef z f) r p q (2 ^ 120) (h.coefs z) b.rest b.product in
      omega (arith, s, t, h.konst, b.number);
  coefs = λ j.
      let t = product_size (coef z f) m p q (2 ^ 120) (h.coefs z) b.modulus b.product in
      set_size f.coefs z j (coef z f *ℤ m) (2 ^ 122) (omega (arith, t)) (omega (arith, h.coefs j, b.number));
}

-- ---- lists of rows

within-form : (p q : ℕ) (row : Row) → IsRowWithin p q row → IsFormWithin p q (form_of row)
within-form p q (Eq f) h = h
within-form p q (Div n f) h = h.0
within-form p q (Ge f) h = h

pub all-taken : (p q n z : ℕ) (m r : ℤ) (rs : List Row) → z < n → IsBound p q m r → AreRowsWithin p q rs → AreRowsOver n rs → AllCanTake z (quotient_form n z m r) rs
all-taken p q n z m r [] l b h o = tt
all-taken p q n z m r (row ∷ rs) l b h o =
    (record { blends = takes p q n z m r (form_of row) l b (within-form p q row h.0); modulus = o.0.1 }, all-taken p q n z m r rs l b h.1 o.1)

pub all-small : (p q z : ℕ) (m r : ℤ) (rs : List Row) → IsBound p q m r → AreRowsWithin p q rs → AreSmall z rs
all-small p q z m r [] b h = tt
all-small p q z m r (row ∷ rs) b h = (let w = within-form p q row h.0 in omega (arith, w.coefs z, b.number), all-small p q z m r rs b h.1)

one-calm : (p q z : ℕ) (m r : ℤ) (row : Row) → IsBound p q m r → IsRowWithin p q row → IsRowUpTo2To122 (substitute_residue_row z m r row)
one-calm p q z m r (Eq f) b h = inr (spread_moderate p q z m r f b h)
one-calm p q z m r (Div n f) b h = (spread_moderate p q z m r f b h.0, omega (arith, h.2, b.number))
one-calm p q z m r (Ge f) b h = inr (spread_moderate p q z m r f b h)

pub all-calm : (p q z : ℕ) (m r : ℤ) (rs : List Row) → IsBound p q m r → AreRowsWithin p q rs → AreRowsUpTo2To122 (map (substitute_residue_row z m r) rs)
all-calm p q z m r [] b h = tt
all-calm p q z m r (row ∷ rs) b h = (one-calm p q z m r row b h.0, all-calm p q z m r rs b h.1)
