-- Pairs of lower and upper rows.
use Rattle.std.proofs.Common.{◌≡◌, ℕ, suc, ◌+◌, ◌*◌, ◌^◌, ◌<◌, ◌≤◌, nat_lt, ℤ, pos, negsuc, ◌-ℤ◌, FitsSigned, to_z, of_z, List, [], ◌∷◌, Bool, true, false, cond, ◌&&◌, ◌||◌, length, arith, refl, ◌∙◌}
use borrow.Author.Tests.{le-ltb, ltb-true, ltb-false}
use Rattle.std.specs.Int.{w128}
use Rattle.std.specs.Int.Signed.{lt_z}
use Rattle.std.proofs.lemmas.Int.{ints, to_z_pos}
use Rattle.std.proofs.Math.Nat.{mul-le-mul_left}
use Rattle.ac_base.proofs.Bits.{again_128}
use Rattle.ac_forms.specs.Affine.{coef}
use Rattle.ac_forms.specs.declared.row.Row.{Row}
use Rattle.ac_forms.specs.declared.row.Row.TheVariants.{Eq, Div, Ge}
use Rattle.ac_omega_steps.specs.declared.column.Bound.{Bound}
use Rattle.ac_omega_steps.specs.Bounds.{lows, highs, is_low, is_high}
use Rattle.ac_omega.specs.ColumnChoice.{is_unit, are_units, is_unit_with, are_unit_pairs, excess}

unit-with : (b : Bound) (hs : List Bound) → is_unit_with b hs ≡ (is_unit b || are_units hs)
unit-with b [] = elim (is_unit b) as (λ t. true ≡ (t || true)) [ true ↦ refl | false ↦ refl ]
unit-with b (h ∷ hs) = rw (unit-with b hs) (by (is_unit b) (is_unit h) (are_units hs))
  where
    by : (a c d : Bool) → ((a || c) && (a || d)) ≡ (a || (c && d))
    by true c d = refl
    by false c d = refl

pub unit-pairs : (ls hs : List Bound) → are_unit_pairs ls hs ≡ (are_units ls || are_units hs)
unit-pairs [] hs = refl
unit-pairs (l ∷ ls) hs = rw (unit-with l hs, unit-pairs ls hs) (by (is_unit l) (are_units ls) (are_units hs))
  where
    by : (a b c : Bool) → ((a || c) && (b || c)) ≡ ((a && b) || c)
    by true true c = refl
    by true false true = refl
    by true false false = refl
    by false true true = refl
    by false true false = refl
    by false false true = refl
    by false false false = refl

pub pairs-below : (ls hs : List Bound) → are_units ls ≡ true → true ≡ are_unit_pairs ls hs
pairs-below ls hs e = rw (unit-pairs ls hs, e) refl

pub pairs-above : (ls hs : List Bound) (b : Bool) → are_units ls ≡ false → b ≡ are_units hs → b ≡ are_unit_pairs ls hs
pairs-above ls hs b e f = rw (unit-pairs ls hs, e) f

-- the numbers of an excess
product-small : (l u : ℕ) → l + u < 2 ^ 64 → l * u < 2 ^ 127
product-small l u h = by (nat_lt l (2 ^ 63)) refl
  where
    by : (t : Bool) → nat_lt l (2 ^ 63) ≡ t → l * u < 2 ^ 127
    by true e =
        let a : l < 2 ^ 63 = ltb-true l (2 ^ 63) e in
        let b : u ≤ 2 ^ 64 = omega arith in
        omega (arith, mul-le-mul_left l b)
    by false e =
        let a : 2 ^ 63 ≤ l = ltb-false l (2 ^ 63) e in
        let b : l ≤ 2 ^ 64 = omega arith in
        omega (arith, mul-le-mul_left u b)

first-fits : (p l : ℕ) → p < 2 ^ 127 → l < 2 ^ 64 → FitsSigned w128 (pos p -ℤ pos l)
first-fits p l a b = omega (arith, ints)

second-fits : (p l u : ℕ) → p < 2 ^ 127 → l < 2 ^ 64 → u < 2 ^ 64 → FitsSigned w128 (pos p -ℤ pos l -ℤ pos u)
second-fits p l u a b c = omega (arith, ints)

pub read-small : (n : ℕ) → n < 2 ^ 127 → to_z w128 n ≡ pos n
read-small n h = to_z_pos w128 n h

pub excess-first : (l u : ℕ) → l + u < 2 ^ 64 → FitsSigned w128 (to_z w128 (l * u) -ℤ to_z w128 l)
excess-first l u h =
    let p = product-small l u h in
    let a : l < 2 ^ 64 = omega arith in
    rw (read-small (l * u) p, read-small l (omega arith)) (first-fits (l * u) l p a)

pub excess-read : (l u : ℕ) → l + u < 2 ^ 64 → to_z w128 (of_z w128 (to_z w128 (l * u) -ℤ to_z w128 l)) -ℤ to_z w128 u ≡ excess l u
excess-read l u h =
    rw (again_128 _ (excess-first l u h), read-small (l * u) (product-small l u h), read-small l (omega arith), read-small u (omega arith)) refl

pub excess-second : (l u : ℕ) → l + u < 2 ^ 64 → FitsSigned w128 (to_z w128 (of_z w128 (to_z w128 (l * u) -ℤ to_z w128 l)) -ℤ to_z w128 u)
excess-second l u h = rw (excess-read l u h) (second-fits (l * u) l u (product-small l u h) (omega arith) (omega arith))

pub excess-is : (l u : ℕ) → l + u < 2 ^ 64 → to_z w128 (of_z w128 (to_z w128 (of_z w128 (to_z w128 (l * u) -ℤ to_z w128 l)) -ℤ to_z w128 u)) ≡ excess l u
excess-is l u h = again_128 _ (excess-second l u h) ∙ excess-read l u h

-- a row is no lower and an upper row of one column
low-or-high : (k : ℤ) → lt_z (pos 0) k ≡ true → lt_z k (pos 0) ≡ false
low-or-high (pos n) e = le-ltb n 0 (omega arith)
low-or-high (negsuc n) e = absurd cc

sides-more : (a b : Bool) (n l u : ℕ) (ls hs : List Bound) (x y : Bound) → (a ≡ true → b ≡ false) → length ls + length hs ≤ n → length (cond a (x ∷ ls) ls) + length (cond b (y ∷ hs) hs) ≤ suc n
sides-more true true n l u ls hs x y f h = absurd (let e = f refl in cc)
sides-more true false n l u ls hs x y f h = omega arith
sides-more false true n l u ls hs x y f h = omega arith
sides-more false false n l u ls hs x y f h = omega arith

pub sides-length : (z : ℕ) (rows : List Row) → length (lows z rows) + length (highs z rows) ≤ length rows
sides-length z [] = omega arith
sides-length z (Ge f ∷ rs) = sides-more (is_low z f) (is_high z f) (length rs) 0 0 (lows z rs) (highs z rs) _ _ (low-or-high (coef z f)) (sides-length z rs)
sides-length z (Eq f ∷ rs) = omega (arith, sides-length z rs)
sides-length z (Div m f ∷ rs) = omega (arith, sides-length z rs)
