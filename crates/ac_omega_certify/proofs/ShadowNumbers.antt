-- The numbers of a dark shadow stay in `i128`.
use Rattle.std.proofs.Common.{ℕ, zero, suc, ◌+◌, ◌*◌, ◌≤◌, ◌^◌, ℤ, pos, negsuc, ◌+ℤ◌, ◌-ℤ◌, ◌*ℤ◌, neg_ℤ, ◌≤ℤ◌, unsigned_abs, arith}
use Rattle.std.proofs.Math.Nat.{le-mul_of_pos_right}
use Rattle.std.proofs.lemmas.Int.{ints}
use Rattle.ac_base.proofs.Columns.{get_or-mix}
use Rattle.ac_forms.specs.Affine.{Affine, coef, combined, shifted, MixFits}
use Rattle.ac_forms.specs.Fits.{Fits}
use Rattle.ac_omega_certify.specs.Descents.{IsFormUpTo2To122}
use Rattle.ac_omega_certify.specs.Refutations.{IsFormWithin}
use Rattle.ac_omega_certify.specs.ShadowSteps.{dark_gap}
use Rattle.ac_omega_certify.specs.TreePathRows.{Blends, CanRaise}
use Rattle.ac_omega_certify.proofs.Moderate.{product-size, sum_size, turned_size, fits_within}
use Rattle.ac_omega_certify.proofs.ModerateSplinters.{less_size}

pub smaller-size : (x y : ℤ) → pos 0 ≤ℤ x → x ≤ℤ y → unsigned_abs x ≤ unsigned_abs y
smaller-size (pos a) (pos b) h l = omega (arith, ints, l)
smaller-size (pos a) (negsuc b) h l = absurd (omega (arith, ints, l))
smaller-size (negsuc a) y h l = absurd (omega (arith, ints, h))

-- where a product of bounds of a number is not large, the number is not
pub both-small : (x : ℤ) (p q n : ℕ) → unsigned_abs x ≤ p → unsigned_abs x ≤ q → p * q ≤ n → unsigned_abs x ≤ n
both-small x p q n h k l = by (unsigned_abs x) p q h k l
  where
    by : (x p q : ℕ) → x ≤ p → x ≤ q → p * q ≤ n → x ≤ n
    by zero p q h k l = omega arith
    by (suc x) p zero h k l = absurd (omega arith)
    by (suc x) p (suc q) h k l = let m = le-mul_of_pos_right {m = suc q} p (omega arith) in omega arith

pub opposite-fits : (f : Affine) (z p q : ℕ) → IsFormWithin p q f → p * q ≤ 2 ^ 120 → Fits (neg_ℤ (coef z f))
opposite-fits f z p q h l =
    let s = both-small (coef z f) p q (2 ^ 120) (h.factors z) (h.coefs z) l in
    let t = turned_size (coef z f) in
    fits_within (neg_ℤ (coef z f)) (omega arith)

mix-fits : (k x l y : ℤ) → unsigned_abs (k *ℤ x) ≤ 2 ^ 122 → unsigned_abs (l *ℤ y) ≤ 2 ^ 122 → MixFits k x l y
mix-fits k x l y h g =
    let s = sum_size (k *ℤ x) (l *ℤ y) in
    (fits_within (k *ℤ x) (omega arith), fits_within (l *ℤ y) (omega arith), fits_within (k *ℤ x +ℤ l *ℤ y) (omega arith))

-- a lower row and an upper one, with the sizes b and a of their coefficients of the column, where n is taken from the lower one
pub record IsPair (f g : Affine) (a b n : ℤ) : Type 0 where
  pub factor : ℕ
  pub number : ℕ
  pub product : factor * number ≤ 2 ^ 120
  pub low : IsFormWithin factor number f
  pub high : IsFormWithin factor number g
  pub size : unsigned_abs a ≤ factor
  pub positive : pos 1 ≤ℤ a
  pub other : unsigned_abs b ≤ factor
  pub less : unsigned_abs b ≤ number
  pub above : pos 1 ≤ℤ b
  pub some : pos 0 ≤ℤ n
  pub within : n ≤ℤ b

low-konst : (f g : Affine) (a b n : ℤ) → IsPair f g a b n → unsigned_abs (a *ℤ f.konst) ≤ 2 ^ 120
low-konst f g a b n p = product-size a f.konst p.factor p.number (2 ^ 120) p.size p.low.konst p.product

low-coef : (f g : Affine) (a b n : ℤ) (j : ℕ) → IsPair f g a b n → unsigned_abs (a *ℤ coef j f) ≤ 2 ^ 120
low-coef f g a b n j p = product-size a (coef j f) p.factor p.number (2 ^ 120) p.size (p.low.coefs j) p.product

high-konst : (f g : Affine) (a b n : ℤ) → IsPair f g a b n → unsigned_abs (b *ℤ g.konst) ≤ 2 ^ 120
high-konst f g a b n p = product-size b g.konst p.factor p.number (2 ^ 120) p.other p.high.konst p.product

high-coef : (f g : Affine) (a b n : ℤ) (j : ℕ) → IsPair f g a b n → unsigned_abs (b *ℤ coef j g) ≤ 2 ^ 120
high-coef f g a b n j p = product-size b (coef j g) p.factor p.number (2 ^ 120) p.other (p.high.coefs j) p.product

taken-size : (f g : Affine) (a b n : ℤ) → (p : IsPair f g a b n) → unsigned_abs n ≤ p.number
taken-size f g a b n p = let s = smaller-size n b p.some p.within in let l = p.less in omega arith

pub times-taken : (f g : Affine) (a b n : ℤ) → IsPair f g a b n → unsigned_abs (a *ℤ n) ≤ 2 ^ 120
times-taken f g a b n p = product-size a n p.factor p.number (2 ^ 120) p.size (taken-size f g a b n p) p.product

less-one : (x : ℤ) → pos 1 ≤ℤ x → unsigned_abs (x -ℤ pos 1) ≤ unsigned_abs x
less-one x h = smaller-size (x -ℤ pos 1) x (omega (arith, ints, h)) (omega (arith, ints))

pub dark_gap-size : (f g : Affine) (a b n : ℤ) → IsPair f g a b n → unsigned_abs (dark_gap a b) ≤ 2 ^ 120
dark_gap-size f g a b n p =
    let x = less-one a p.positive in
    let y = less-one b p.above in
    let u = p.size in
    let v = p.less in
    product-size (a -ℤ pos 1) (b -ℤ pos 1) p.factor p.number (2 ^ 120) (omega arith) (omega arith) p.product

pub rest-size : (f g : Affine) (a b n : ℤ) → IsPair f g a b n → unsigned_abs (a *ℤ n -ℤ dark_gap a b) ≤ 2 ^ 121
rest-size f g a b n p =
    let s = less_size (a *ℤ n) (dark_gap a b) in
    let x = times-taken f g a b n p in
    let y = dark_gap-size f g a b n p in
    omega arith

konst-size : (f g : Affine) (a b n : ℤ) → IsPair f g a b n → unsigned_abs (a *ℤ (f.konst +ℤ neg_ℤ n)) ≤ 2 ^ 121
konst-size f g a b n p =
    let s = sum_size f.konst (neg_ℤ n) in
    let o = turned_size n in
    let k = p.low.konst in
    let t = taken-size f g a b n p in
    let m = p.product in
    product-size a (f.konst +ℤ neg_ℤ n) p.factor (p.number + p.number) (2 ^ 121) p.size (omega arith) (omega arith)

blends-at : (f g : Affine) (a b n k : ℤ) → IsPair f g a b n → unsigned_abs (a *ℤ k) ≤ 2 ^ 121 → Blends a (record { konst = k; coefs = f.coefs }) b g
blends-at f g a b n k p h = record {
  konst = mix-fits a k b g.konst (omega arith) (omega (arith, high-konst f g a b n p));
  coefs = λ j. mix-fits a (coef j f) b (coef j g) (omega (arith, low-coef f g a b n j p)) (omega (arith, high-coef f g a b n j p));
}

-- the sum of the rows
pub pair-blends : (f g : Affine) (a b n : ℤ) → IsPair f g a b n → Blends a f b g
pair-blends f g a b n p = blends-at f g a b n f.konst p (omega (arith, low-konst f g a b n p))

-- where n is taken
pub taken-blends : (f g : Affine) (a b n : ℤ) → IsPair f g a b n → Blends a (shifted f (neg_ℤ n)) b g
taken-blends f g a b n p = blends-at f g a b n (f.konst +ℤ neg_ℤ n) p (konst-size f g a b n p)

sum-coef : (f g : Affine) (a b n : ℤ) (j : ℕ) → IsPair f g a b n → unsigned_abs (coef j (combined a f b g)) ≤ 2 ^ 121
sum-coef f g a b n j p =
    let s = sum_size (a *ℤ coef j f) (b *ℤ coef j g) in
    let x = low-coef f g a b n j p in
    let y = high-coef f g a b n j p in
    rw (get_or-mix a f.coefs b g.coefs j) (omega arith)

pub taken-raises : (f g : Affine) (a b n : ℤ) → IsPair f g a b n → CanRaise (combined a (shifted f (neg_ℤ n)) b g) (a *ℤ n -ℤ dark_gap a b)
taken-raises f g a b n p =
    let k = konst-size f g a b n p in
    let h = high-konst f g a b n p in
    let s = sum_size (a *ℤ (f.konst +ℤ neg_ℤ n)) (b *ℤ g.konst) in
    let r = rest-size f g a b n p in
    let t = sum_size (a *ℤ (f.konst +ℤ neg_ℤ n) +ℤ b *ℤ g.konst) (a *ℤ n -ℤ dark_gap a b) in
    record {
      konst = fits_within _ (omega arith);
      number = fits_within _ (omega arith);
      sum = fits_within _ (omega arith);
      coefs = λ j. fits_within _ (omega (arith, sum-coef f g a b n j p));
    }

-- the shadow's numbers
pub shadow-moderate : (f g : Affine) (a b n : ℤ) → IsPair f g a b n → IsFormUpTo2To122 (shifted (combined a f b g) (neg_ℤ (dark_gap a b)))
shadow-moderate f g a b n p =
    let k = low-konst f g a b n p in
    let h = high-konst f g a b n p in
    let s = sum_size (a *ℤ f.konst) (b *ℤ g.konst) in
    let l = dark_gap-size f g a b n p in
    let t = sum_size (a *ℤ f.konst +ℤ b *ℤ g.konst) (neg_ℤ (dark_gap a b)) in
    let o = turned_size (dark_gap a b) in
    record { konst = omega arith; coefs = λ j. omega (arith, sum-coef f g a b n j p) }

pub dark_gap-fits : (f g : Affine) (a b n : ℤ) → IsPair f g a b n → Fits (dark_gap a b)
dark_gap-fits f g a b n p = fits_within (dark_gap a b) (omega (arith, dark_gap-size f g a b n p))

pub times-fits : (f g : Affine) (a b n : ℤ) → IsPair f g a b n → Fits (a *ℤ n)
times-fits f g a b n p = fits_within (a *ℤ n) (omega (arith, times-taken f g a b n p))

pub rest-fits : (f g : Affine) (a b n : ℤ) → IsPair f g a b n → Fits (a *ℤ n -ℤ dark_gap a b)
rest-fits f g a b n p = fits_within (a *ℤ n -ℤ dark_gap a b) (omega (arith, rest-size f g a b n p))

pub shadow-fits : (f g : Affine) (a b n : ℤ) → IsPair f g a b n → Fits ((combined a f b g).konst +ℤ neg_ℤ (dark_gap a b))
shadow-fits f g a b n p = let m = shadow-moderate f g a b n p in let k = m.konst in fits_within _ (omega (arith, k))
