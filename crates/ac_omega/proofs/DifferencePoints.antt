-- Forms of differences at points whose coordinates are small, and points that go back along a choice.
use Rattle.std.proofs.Common.{◌≡◌, inl, inr, ℕ, zero, suc, ◌+◌, ◌*◌, ◌<◌, ◌≤◌, ◌^◌, cond, Bool, true, false, ◌&&◌, ℤ, pos, negsuc, ◌+ℤ◌, ◌*ℤ◌, neg_ℤ, List, [], ◌∷◌, length, set, get_or, Some, arith, refl, ap, sym, subst, mul-le-mul_left}
use Rattle.std.specs.Prelude.{unsigned_abs, int_div}
use Rattle.std.proofs.Math.Nat.{div-one}
use Rattle.std.specs.Int.{w128, int_div_euclid, int_max, int_min}
use Rattle.std.proofs.lemmas.Int.{ints, clamps, unsigned_abs-mul, fits_signed_from_abs}
use Rattle.std.proofs.lemmas.List.{length-set}
use Rattle.ac_base.specs.Dot.{dot}
use Rattle.ac_forms.specs.Affine.{Affine, coef, value_at, partial_sums, CanEvaluate}
use Rattle.ac_forms.specs.Fits.{AllFit, fits}
use Rattle.ac_forms.specs.RangeTests.{can_evaluate}
use Rattle.ac_forms.specs.declared.row.Row.{Row}
use Rattle.ac_forms.specs.declared.row.Row.TheVariants.{Eq, Div, Ge}
use Rattle.ac_omega_steps.specs.Bounds.{is_low, is_high, is_none, lows}
use Rattle.ac_omega_steps.specs.Choices.{rest_at, low_values, high_values, greatest, least, between, solved}
use Rattle.ac_omega_steps.specs.ChoiceFits.{low_values_fit, high_values_fit, between_fits, solved_fits}
use Rattle.ac_omega_steps.proofs.Fitting.{evaluate_true}
use Rattle.ac_omega_steps.proofs.OneColumn.{value-rest}
use Rattle.ac_omega.proofs.DifferenceForms.{unit-at, weight, weight-two}
use Rattle.ac_omega.proofs.DifferenceRows.{IsOver, IsRow, Each, by-one}
use Rattle.ac_omega.proofs.DifferenceNormals.{fits-within, both-true}
use Rattle.ac_omega.proofs.DifferenceChoices.{IsSign}
use Rattle.ac_omega.proofs.DifferenceShadows.{low-one, high-one}

-- each is from -v to v
abbrev pub AreWithin : ℕ → List ℤ → Type 0
AreWithin v [] = Unit {0}
AreWithin v (x ∷ xs) = (unsigned_abs x ≤ v) × AreWithin v xs

pub within-more : (v w : ℕ) (xs : List ℤ) → v ≤ w → AreWithin v xs → AreWithin w xs
within-more v w [] l h = tt
within-more v w (x ∷ xs) l h = (omega (arith, h.0), within-more v w xs l h.1)

pub within-set : (v : ℕ) (xs : List ℤ) (z : ℕ) (x : ℤ) → unsigned_abs x ≤ v → AreWithin v xs → AreWithin v (set xs z x)
within-set v [] zero x l h = tt
within-set v [] (suc z) x l h = tt
within-set v (y ∷ ys) zero x l h = (l, h.1)
within-set v (y ∷ ys) (suc z) x l h = (h.0, within-set v ys z x l h.1)

-- products and sums
product-within : (c x : ℤ) (v : ℕ) → unsigned_abs x ≤ v → unsigned_abs (c *ℤ x) ≤ unsigned_abs c * v
product-within c x v h = omega (arith, unsigned_abs-mul c x, mul-le-mul_left (unsigned_abs c) h)

sum-within : (x y : ℤ) (a b : ℕ) → unsigned_abs x ≤ a → unsigned_abs y ≤ b → unsigned_abs (x +ℤ y) ≤ a + b
sum-within x y a b h g = omega (arith, ints)

add-times : (a b v : ℕ) → (a + b) * v ≡ a * v + b * v
add-times a b v = omega arith

dot-within : (cs xs : List ℤ) (v : ℕ) → AreWithin v xs → unsigned_abs (dot cs xs) ≤ weight cs * v
dot-within [] xs v h = omega arith
dot-within (c ∷ cs) [] v h = omega arith
dot-within (c ∷ cs) (x ∷ xs) v h =
    omega (arith, sum-within (c *ℤ x) (dot cs xs) (unsigned_abs c * v) (weight cs * v) (product-within c x v h.0) (dot-within cs xs v h.1), add-times (unsigned_abs c) (weight cs) v)

sums-fit : (s : ℤ) (cs xs : List ℤ) (v n : ℕ) → AreWithin v xs → unsigned_abs s + weight cs * v ≤ n → n < 2 ^ 127 → AllFit (partial_sums s cs xs)
sums-fit s [] xs v n h l room = tt
sums-fit s (c ∷ cs) [] v n h l room = tt
sums-fit s (c ∷ cs) (x ∷ xs) v n h l room =
    let p = product-within c x v h.0 in
    let d = add-times (unsigned_abs c) (weight cs) v in
    let q : unsigned_abs (c *ℤ x) ≤ n = omega (arith, p, d) in
    let r : unsigned_abs (s +ℤ c *ℤ x) ≤ unsigned_abs s + unsigned_abs c * v = sum-within s (c *ℤ x) (unsigned_abs s) (unsigned_abs c * v) (omega arith) p in
    let t : unsigned_abs (s +ℤ c *ℤ x) ≤ n = omega (arith, r, d) in
    (fits_signed_from_abs w128 (c *ℤ x) (omega arith), (fits_signed_from_abs w128 (s +ℤ c *ℤ x) (omega arith), sums-fit (s +ℤ c *ℤ x) cs xs v n h.1 (omega (arith, r, d)) room))

two-times : (w v : ℕ) → w ≤ 2 → w * v ≤ v + v
two-times zero v h = omega arith
two-times (suc zero) v h = omega arith
two-times (suc (suc zero)) v h = omega arith
two-times (suc (suc (suc w))) v h = absurd (omega arith)

one-times : (w v : ℕ) → w ≤ 1 → w * v ≤ v
one-times zero v h = omega arith
one-times (suc zero) v h = omega arith
one-times (suc (suc w)) v h = absurd (omega arith)

pub can-evaluate : (vars : List ℕ) (b v : ℕ) (f : Affine) (p : List ℤ) → IsOver vars b f → AreWithin v p → v + v + b < 2 ^ 127 → CanEvaluate f p
can-evaluate vars b v f p o h room =
    let w = weight-two f.coefs o.difference in
    let t = two-times (weight f.coefs) v w in
    let r : v + v < 2 ^ 127 = omega arith in
    let l : unsigned_abs (value_at f p) ≤ v + v + b = sum-within (dot f.coefs p) f.konst (v + v) b (omega (arith, dot-within f.coefs p v h, t)) o.small in
    (sums-fit (pos 0) f.coefs p v (v + v) h (omega (arith, t)) r, fits_signed_from_abs w128 (value_at f p) (omega arith))

-- the value without a column that the form has
weight-set : (cs : List ℤ) (z : ℕ) → weight (set cs z (pos 0)) + unsigned_abs (get_or cs z (pos 0)) ≡ weight cs
weight-set [] zero = refl
weight-set [] (suc z) = refl
weight-set (c ∷ cs) zero = omega arith
weight-set (c ∷ cs) (suc z) = omega (arith, weight-set cs z)

pub sign-one : (c : ℤ) → IsSign c → unsigned_abs c ≡ 1
sign-one c (inl e) = rw e refl
sign-one c (inr e) = rw e refl

pub rest-within : (vars : List ℕ) (b v z : ℕ) (f : Affine) (p : List ℤ) → IsOver vars b f → IsSign (coef z f) → z < length p → AreWithin v p → unsigned_abs (rest_at z f p) ≤ v + b
rest-within vars b v z f p o s l h =
    let w : weight (set f.coefs z (pos 0)) ≤ 1 = omega (arith, weight-two f.coefs o.difference, weight-set f.coefs z, sign-one (coef z f) s) in
    let t = one-times (weight (set f.coefs z (pos 0))) v w in
    rw (value-rest f p z l) (sum-within (dot (set f.coefs z (pos 0)) p) f.konst v b (omega (arith, dot-within (set f.coefs z (pos 0)) p v h, t)) o.small)

abs-neg : (x : ℤ) → unsigned_abs (neg_ℤ x) ≡ unsigned_abs x
abs-neg x = omega (arith, ints)

pub low-value : (x c : ℤ) (n : ℕ) → c ≡ pos 1 → unsigned_abs x ≤ n → unsigned_abs (neg_ℤ (int_div_euclid x c)) ≤ n
low-value x c n e h = rw (e, by-one x, abs-neg x) h

pub high-value : (x c : ℤ) (n : ℕ) → c ≡ negsuc 0 → unsigned_abs x ≤ n → unsigned_abs (int_div_euclid x (neg_ℤ c)) ≤ n
high-value x c n e h = rw (e, by-one x) h

-- the numbers that the bounds allow
pub record AreAllowed (fit : Bool) (n : ℕ) (xs : List ℤ) : Type 0 where
  pub fits : fit ≡ true
  pub within : AreWithin n xs

zero-within : (v : ℕ) → unsigned_abs (pos 0) ≤ v
zero-within v = omega arith

pub lows-allowed : (vars : List ℕ) (b v z : ℕ) (rs : List Row) (p : List ℤ) → Each (IsRow vars b) rs → z < length p → AreWithin v p → v + v + b < 2 ^ 127 → AreAllowed (low_values_fit z rs p) (v + b) (low_values z rs p)
lows-allowed vars b v z [] p h l w room = record { fits = refl; within = tt }
lows-allowed vars b v z (Eq f ∷ rs) p h l w room = let a = lows-allowed vars b v z rs p h.1 l w room in record { fits = a.fits; within = a.within }
lows-allowed vars b v z (Div m f ∷ rs) p h l w room = absurd h.0
lows-allowed vars b v z (Ge f ∷ rs) p h l w room = by (is_low z f) refl (lows-allowed vars b v z rs p h.1 l w room)
  where
    value : ℤ
    value = neg_ℤ (int_div_euclid (rest_at z f p) (coef z f))

    by : (t : Bool) → is_low z f ≡ t → AreAllowed (low_values_fit z rs p) (v + b) (low_values z rs p)
        → AreAllowed (cond t (can_evaluate f (set p z (pos 0)) && (fits value && low_values_fit z rs p)) (low_values_fit z rs p)) (v + b) (cond t (value ∷ low_values z rs p) (low_values z rs p))
    by true e a =
        let o = low-one (coef z f) (unit-at (λ j. coef j f) h.0.0.difference z) e in
        let k = low-value (rest_at z f p) (coef z f) (v + b) o (rest-within vars b v z f p h.0.0 (inl o) l w) in
        let c = evaluate_true f (set p z (pos 0)) (can-evaluate vars b v f (set p z (pos 0)) h.0.0 (within-set v p z (pos 0) (zero-within v) w) room) in
        record { fits = both-true _ _ c (both-true _ _ (fits-within value (v + b) k (omega arith)) a.fits); within = (k, a.within) }
    by false e a = a

pub highs-allowed : (vars : List ℕ) (b v z : ℕ) (rs : List Row) (p : List ℤ) → Each (IsRow vars b) rs → z < length p → AreWithin v p → v + v + b < 2 ^ 127 → AreAllowed (high_values_fit z rs p) (v + b) (high_values z rs p)
highs-allowed vars b v z [] p h l w room = record { fits = refl; within = tt }
highs-allowed vars b v z (Eq f ∷ rs) p h l w room = let a = highs-allowed vars b v z rs p h.1 l w room in record { fits = a.fits; within = a.within }
highs-allowed vars b v z (Div m f ∷ rs) p h l w room = absurd h.0
highs-allowed vars b v z (Ge f ∷ rs) p h l w room = by (is_high z f) refl (highs-allowed vars b v z rs p h.1 l w room)
  where
    value : ℤ
    value = int_div_euclid (rest_at z f p) (neg_ℤ (coef z f))

    by : (t : Bool) → is_high z f ≡ t → AreAllowed (high_values_fit z rs p) (v + b) (high_values z rs p)
        → AreAllowed (cond t (can_evaluate f (set p z (pos 0)) && (fits (neg_ℤ (coef z f)) && high_values_fit z rs p)) (high_values_fit z rs p)) (v + b) (cond t (value ∷ high_values z rs p) (high_values z rs p))
    by true e a =
        let o = high-one (coef z f) (unit-at (λ j. coef j f) h.0.0.difference z) e in
        let k = high-value (rest_at z f p) (coef z f) (v + b) o (rest-within vars b v z f p h.0.0 (inr o) l w) in
        let c = evaluate_true f (set p z (pos 0)) (can-evaluate vars b v f (set p z (pos 0)) h.0.0 (within-set v p z (pos 0) (zero-within v) w) room) in
        let s : fits (neg_ℤ (coef z f)) ≡ true = ap (λ (x : ℤ). fits (neg_ℤ x)) o in
        record { fits = both-true _ _ c (both-true _ _ s a.fits); within = (k, a.within) }
    by false e a = a

max-within : (x y : ℤ) (n : ℕ) → unsigned_abs x ≤ n → unsigned_abs y ≤ n → unsigned_abs (int_max x y) ≤ n
max-within x y n h g = omega (arith, ints, clamps)

min-within : (x y : ℤ) (n : ℕ) → unsigned_abs x ≤ n → unsigned_abs y ≤ n → unsigned_abs (int_min x y) ≤ n
min-within x y n h g = omega (arith, ints, clamps)

greatest-within : (n : ℕ) (x : ℤ) (xs : List ℤ) → unsigned_abs x ≤ n → AreWithin n xs → unsigned_abs (greatest x xs) ≤ n
greatest-within n x [] h g = h
greatest-within n x (y ∷ ys) h g = max-within x (greatest y ys) n h (greatest-within n y ys g.0 g.1)

least-within : (n : ℕ) (x : ℤ) (xs : List ℤ) → unsigned_abs x ≤ n → AreWithin n xs → unsigned_abs (least x xs) ≤ n
least-within n x [] h g = h
least-within n x (y ∷ ys) h g = min-within x (least y ys) n h (least-within n y ys g.0 g.1)

between-within : (n : ℕ) (ls hs : List ℤ) → AreWithin n ls → AreWithin n hs → unsigned_abs (between ls hs) ≤ n
between-within n (x ∷ xs) hs h g = greatest-within n x xs h.0 h.1
between-within n [] (y ∷ ys) h g = least-within n y ys g.0 g.1
between-within n [] [] h g = zero-within n

-- a point that went back
pub record GoesBack (fit : Bool) (v : ℕ) (p q : List ℤ) : Type 0 where
  pub fits : fit ≡ true
  pub within : AreWithin v q
  pub long : length q ≡ length p

set-back : (fit : Bool) (v b z : ℕ) (x : ℤ) (p : List ℤ) → fit ≡ true → unsigned_abs x ≤ v + b → AreWithin v p → GoesBack fit (v + b) p (set p z x)
set-back fit v b z x p f h w = record { fits = f; within = within-set (v + b) p z x h (within-more v (v + b) p (omega arith) w); long = length-set p z x }

cond-fits : (t a b : Bool) → a ≡ true → b ≡ true → cond t a b ≡ true
cond-fits true a b e f = e
cond-fits false a b e f = f

pub between-back : (vars : List ℕ) (b v z : ℕ) (rs : List Row) (p : List ℤ) → Each (IsRow vars b) rs → z < length p → AreWithin v p → v + v + b < 2 ^ 127 → GoesBack (between_fits z rs p) (v + b) p (set p z (between (low_values z rs p) (high_values z rs p)))
between-back vars b v z rs p h l w room =
    let ls = lows-allowed vars b v z rs p h l w room in
    let hs = highs-allowed vars b v z rs p h l w room in
    set-back (between_fits z rs p) v b z _ p (cond-fits (is_none (lows z rs)) _ _ hs.fits ls.fits) (between-within (v + b) _ _ ls.within hs.within) w

quotient-within : (x c : ℤ) (n : ℕ) → IsSign c → unsigned_abs x ≤ n → unsigned_abs (int_div x c) ≤ n
quotient-within x c n (inl e) h = subst (λ (y : ℤ). unsigned_abs (int_div x y) ≤ n) (sym e) (by x h)
  where
    by : (x : ℤ) → unsigned_abs x ≤ n → unsigned_abs (int_div x (pos 1)) ≤ n
    by (pos a) h = omega (arith, ints, div-one a)
    by (negsuc a) h = omega (arith, ints, div-one (suc a))
quotient-within x c n (inr e) h = subst (λ (y : ℤ). unsigned_abs (int_div x y) ≤ n) (sym e) (by x h)
  where
    by : (x : ℤ) → unsigned_abs x ≤ n → unsigned_abs (int_div x (negsuc 0)) ≤ n
    by (pos a) h = omega (arith, ints, div-one a)
    by (negsuc a) h = omega (arith, ints, div-one (suc a))

pub solved-back : (vars : List ℕ) (b v z : ℕ) (g : Affine) (p : List ℤ) → IsOver vars b g → IsSign (coef z g) → z < length p → AreWithin v p → v + v + b < 2 ^ 127 → GoesBack (solved_fits z (Some (Eq g)) p) (v + b) p (set p z (solved z (Some (Eq g)) p))
solved-back vars b v z g p o s l w room =
    let r : unsigned_abs (neg_ℤ (rest_at z g p)) ≤ v + b = rw (abs-neg (rest_at z g p)) (rest-within vars b v z g p o s l w) in
    let k : unsigned_abs (solved z (Some (Eq g)) p) ≤ v + b = quotient-within (neg_ℤ (rest_at z g p)) (coef z g) (v + b) s r in
    let c = evaluate_true g (set p z (pos 0)) (can-evaluate vars b v g (set p z (pos 0)) o (within-set v p z (pos 0) (zero-within v) w) room) in
    let t : fits (neg_ℤ (rest_at z g p)) ≡ true = fits-within (neg_ℤ (rest_at z g p)) (v + b) r (omega arith) in
    set-back (solved_fits z (Some (Eq g)) p) v b z _ p (both-true _ _ c (both-true _ _ t (fits-within (solved z (Some (Eq g)) p) (v + b) k (omega arith)))) k w
