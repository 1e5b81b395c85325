-- A comparison that bounds the iterator fails within the bound on the turns.
use Rattle.std.proofs.Common.{◌≡◌, ℕ, suc, ◌+◌, ◌*◌, ◌≤◌, false, refl, arith, List, [], ◌∷◌, ◌++◌, length, ap, ℤ, pos, negsuc, ◌+ℤ◌, ◌*ℤ◌, ◌≤ℤ◌, ◌<ℤ◌, unsigned_abs}
use Rattle.std.proofs.lemmas.Int.{ints}
use Rattle.std.proofs.Math.IntN.{negsuc-*ℤ-pos, *ℤ-zero}
use Rattle.std.specs.List.{AllByRecursion}
use Rattle.std.specs.Int.{int_div_euclid}
use Rattle.ac_base.specs.Dot.{dot}
use Rattle.ac_syntax.specs.Index.{Point, index_value, quot_value, quots_value, is_nonnegative}
use Rattle.ac_syntax.specs.Turns.{innermost, inside, iterator_at, own}
use Rattle.ac_syntax.specs.declared.tree.Quot.{Quot}
use Rattle.ac_base.proofs.Products.{mul-add_ℤ, mul_assoc_ℤ}
use Rattle.ac_syntax.specs.declared.tree.IndexExpr.{IndexExpr}

-- one iterator more adds its product
pub dot-last : (cs xs : List ℤ) (x : ℤ) → length cs ≡ length xs + 1 → dot cs (xs ++ x ∷ []) ≡ dot cs (xs ++ pos 0 ∷ []) +ℤ (innermost cs *ℤ x)
dot-last [] xs x h = absurd (omega arith)
dot-last (c ∷ []) [] x h = omega (arith, ints, *ℤ-zero c)
dot-last (c ∷ []) (y ∷ xs) x h = absurd (omega arith)
dot-last (c ∷ d ∷ cs) [] x h = absurd (omega arith)
dot-last (c ∷ d ∷ cs) (y ∷ xs) x h = let e = dot-last (d ∷ cs) xs x (omega arith) in omega (arith, ints, e)

-- one whose coefficient is 0 counts for nothing
pub dot-still : (cs xs : List ℤ) (x y : ℤ) → own (length xs) cs ≡ pos 0 → dot cs (xs ++ x ∷ []) ≡ dot cs (xs ++ y ∷ [])
dot-still [] xs x y h = refl
dot-still (c ∷ cs) [] x y h = rw h (omega (arith, ints))
dot-still (c ∷ cs) (z ∷ xs) x y h = ap (λ r. (c *ℤ z) +ℤ r) (dot-still cs xs x y h)

-- so a quotient whose form has no such coefficient has one value in all turns
pub quot_still : (p : Point) (q : Quot) (x y : ℤ) → own (length p.iters) q.iters ≡ pos 0 → quot_value (inside p x) q ≡ quot_value (inside p y) q
quot_still p q x y h = ap (λ d. int_div_euclid (q.konst +ℤ (dot q.params p.params +ℤ d)) q.div) (dot-still q.iters p.iters x y h)

pub quots_still : (p : Point) (qs : List Quot) (x y : ℤ) → AllByRecursion (λ q. own (length p.iters) q.iters ≡ pos 0) qs → quots_value (inside p x) qs ≡ quots_value (inside p y) qs
quots_still p [] x y h = refl
quots_still p (q ∷ qs) x y h = λ i. (q.coef *ℤ quot_still p q x y h.0 i) +ℤ quots_still p qs x y h.1 i

pub value_still : (p : Point) (e : IndexExpr) (x y : ℤ) → own (length p.iters) e.iters ≡ pos 0 → AllByRecursion (λ q. own (length p.iters) q.iters ≡ pos 0) e.quots → index_value (inside p x) e ≡ index_value (inside p y) e
value_still p e x y h s = λ i. e.konst +ℤ (dot e.params p.params +ℤ (dot-still e.iters p.iters x y h i +ℤ quots_still p e.quots x y s i))

pub value_inside : (p : Point) (e : IndexExpr) (x : ℤ) → length e.iters ≡ length p.iters + 1 → AllByRecursion (λ q. own (length p.iters) q.iters ≡ pos 0) e.quots
    → index_value (inside p x) e ≡ index_value (inside p (pos 0)) e +ℤ (innermost e.iters *ℤ x)
value_inside p e x h s = omega (arith, ints, dot-last e.iters p.iters x h, quots_still p e.quots x (pos 0) s)

-- each turn adds the coefficient times the step
pub value_at_turn : (p : Point) (e : IndexExpr) (start step : ℤ) (k : ℕ) → length e.iters ≡ length p.iters + 1 → AllByRecursion (λ q. own (length p.iters) q.iters ≡ pos 0) e.quots
    → index_value (inside p (iterator_at start step k)) e ≡ index_value (inside p start) e +ℤ ((innermost e.iters *ℤ step) *ℤ pos k)
value_at_turn p e start step k h s =
    omega (arith, ints, value_inside p e (iterator_at start step k) h s, value_inside p e start h s, mul-add_ℤ (innermost e.iters) start (step *ℤ pos k), mul_assoc_ℤ (innermost e.iters) step (pos k))

falls : (d : ℤ) (k : ℕ) → d <ℤ pos 0 → ((d *ℤ pos k) +ℤ pos k) ≤ℤ pos 0
falls (pos n) k h = absurd (omega (arith, ints))
falls (negsuc m) k h = omega (arith, ints, negsuc-*ℤ-pos m k, mul_le m k)
  where
    mul_le : (m k : ℕ) → k ≤ suc m * k
    mul_le m k = grind arith

pub fails_by : (v d : ℤ) → d <ℤ pos 0 → is_nonnegative (v +ℤ (d *ℤ pos (suc (unsigned_abs v)))) ≡ false
fails_by v d h = is_not _ (omega (arith, ints, falls d (suc (unsigned_abs v)) h, abs_ge v))
  where
    is_not : (z : ℤ) → z <ℤ pos 0 → is_nonnegative z ≡ false
    is_not (pos n) h = absurd (omega (arith, ints))
    is_not (negsuc n) h = refl

    abs_ge : (v : ℤ) → v ≤ℤ pos (unsigned_abs v)
    abs_ge (pos n) = omega (arith, ints)
    abs_ge (negsuc n) = omega (arith, ints)
