-- One column of the coefficients or of the point changed.
use Rattle.std.proofs.Common.{◌≡◌, ℕ, zero, suc, ◌<◌, ℤ, pos, ◌+ℤ◌, ◌-ℤ◌, ◌*ℤ◌, List, [], ◌∷◌, length, get_or, set, arith, refl, ap, sym, ◌∙◌}
use Rattle.std.proofs.lemmas.Int.{ints}
use Rattle.ac_base.specs.Dot.{dot, mix}
use Rattle.ac_base.proofs.Dot.{gather}
use Rattle.ac_base.proofs.Ring.{ring_steps, same_diff, by_diff_4}

changed : (c v x r : ℤ) → v *ℤ x +ℤ r ≡ c *ℤ x +ℤ r +ℤ (v -ℤ c) *ℤ x
changed = by_diff_4 (λ c v x r. v *ℤ x +ℤ r ≡ c *ℤ x +ℤ r +ℤ (v -ℤ c) *ℤ x) (λ a a' b b' c c' d d'. simp ring_steps (same_diff _ _ _ _ (omega arith)))

moved : (c v x r : ℤ) → c *ℤ v +ℤ r ≡ c *ℤ x +ℤ r +ℤ c *ℤ (v -ℤ x)
moved = by_diff_4 (λ c v x r. c *ℤ v +ℤ r ≡ c *ℤ x +ℤ r +ℤ c *ℤ (v -ℤ x)) (λ a a' b b' c c' d d'. simp ring_steps (same_diff _ _ _ _ (omega arith)))

pub dot-set_coef : (cs p : List ℤ) (z : ℕ) (v : ℤ) → z < length cs → dot (set cs z v) p ≡ dot cs p +ℤ (v -ℤ get_or cs z (pos 0)) *ℤ get_or p z (pos 0)
dot-set_coef [] p z v h = absurd (omega arith)
dot-set_coef (c ∷ cs) [] zero v h = omega (arith, ints)
dot-set_coef (c ∷ cs) [] (suc z) v h = omega (arith, ints)
dot-set_coef (c ∷ cs) (x ∷ p) zero v h = changed c v x (dot cs p)
dot-set_coef (c ∷ cs) (x ∷ p) (suc z) v h = ap (λ r. c *ℤ x +ℤ r) (dot-set_coef cs p z v (omega arith)) ∙ sym (omega (arith, ints))

pub dot-set_point : (cs p : List ℤ) (z : ℕ) (v : ℤ) → z < length p → dot cs (set p z v) ≡ dot cs p +ℤ get_or cs z (pos 0) *ℤ (v -ℤ get_or p z (pos 0))
dot-set_point cs [] z v h = absurd (omega arith)
dot-set_point [] (x ∷ p) zero v h = omega (arith, ints)
dot-set_point [] (x ∷ p) (suc z) v h = omega (arith, ints)
dot-set_point (c ∷ cs) (x ∷ p) zero v h = moved c v x (dot cs p)
dot-set_point (c ∷ cs) (x ∷ p) (suc z) v h = ap (λ r. c *ℤ x +ℤ r) (dot-set_point cs p z v (omega arith)) ∙ sym (omega (arith, ints))

-- the column's own product taken out
pub dot-split : (cs p : List ℤ) (z : ℕ) (v : ℤ) → z < length p → dot cs (set p z v) ≡ get_or cs z (pos 0) *ℤ v +ℤ dot (set cs z (pos 0)) p
dot-split cs [] z v h = absurd (omega arith)
dot-split [] (x ∷ p) zero v h = omega (arith, ints)
dot-split [] (x ∷ p) (suc z) v h = omega (arith, ints)
dot-split (c ∷ cs) (x ∷ p) zero v h = omega (arith, ints)
dot-split (c ∷ cs) (x ∷ p) (suc z) v h = let e = dot-split cs p z v (omega arith) in omega (arith, ints, e)

-- a column whose coefficient is 0
pub dot-free : (cs p : List ℤ) (z : ℕ) → get_or cs z (pos 0) ≡ pos 0 → dot (set cs z (pos 0)) p ≡ dot cs p
dot-free [] p zero e = refl
dot-free [] p (suc z) e = refl
dot-free (c ∷ cs) [] zero e = refl
dot-free (c ∷ cs) [] (suc z) e = refl
dot-free (c ∷ cs) (x ∷ p) zero e = rw e refl
dot-free (c ∷ cs) (x ∷ p) (suc z) e = ap (λ r. c *ℤ x +ℤ r) (dot-free cs p z e)

at_head : (c m w d i : ℤ) → (c *ℤ m) *ℤ w +ℤ d +ℤ c *ℤ i ≡ c *ℤ (m *ℤ w +ℤ i) +ℤ d
at_head c m w d i = simp gather (omega (arith, ints))

-- a column replaced by m times another plus i
pub dot-spread : (cs p : List ℤ) (z : ℕ) (m i w : ℤ) → z < length p → dot (set cs z (get_or cs z (pos 0) *ℤ m)) (set p z w) +ℤ get_or cs z (pos 0) *ℤ i ≡ dot cs (set p z (m *ℤ w +ℤ i))
dot-spread cs [] z m i w h = absurd (omega arith)
dot-spread [] (x ∷ p) zero m i w h = omega (arith, ints)
dot-spread [] (x ∷ p) (suc z) m i w h = omega (arith, ints)
dot-spread (c ∷ cs) (x ∷ p) zero m i w h = at_head c m w (dot cs p) i
dot-spread (c ∷ cs) (x ∷ p) (suc z) m i w h = let e = dot-spread cs p z m i w (omega arith) in omega (arith, ints, e)

-- one coefficient of a combination
pub get_or-mix : (k : ℤ) (a : List ℤ) (l : ℤ) (b : List ℤ) (z : ℕ) → get_or (mix k a l b) z (pos 0) ≡ k *ℤ get_or a z (pos 0) +ℤ l *ℤ get_or b z (pos 0)
get_or-mix k [] l [] zero = omega (arith, ints)
get_or-mix k [] l [] (suc z) = omega (arith, ints)
get_or-mix k [] l (y ∷ ys) zero = omega (arith, ints)
get_or-mix k [] l (y ∷ ys) (suc z) = get_or-mix k [] l ys z
get_or-mix k (x ∷ xs) l [] zero = omega (arith, ints)
get_or-mix k (x ∷ xs) l [] (suc z) = get_or-mix k xs l [] z
get_or-mix k (x ∷ xs) l (y ∷ ys) zero = refl
get_or-mix k (x ∷ xs) l (y ∷ ys) (suc z) = get_or-mix k xs l ys z
