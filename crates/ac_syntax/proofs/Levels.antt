use Rattle.std.proofs.Common.{ℕ, zero, suc, ◌≤◌, List, [], ◌∷◌, arith, inl, inr, ℤ}
use Rattle.ac_syntax.specs.ExecutionOrder.{Before}
use Rattle.ac_syntax.proofs.OrderLevels.{AtLevel}

pub before_level : (c i j : ℕ) (x y : List ℤ) → Before c i j x y → (l : ℕ) × (l ≤ c) × AtLevel c l i j x y
before_level zero i j x y h = (0, omega arith, h)
before_level (suc c) i j [] y h = absurd h
before_level (suc c) i j (k ∷ x) [] h = absurd h
before_level (suc c) i j (k ∷ x) (m ∷ y) (inl h) = (0, omega arith, h)
before_level (suc c) i j (k ∷ x) (m ∷ y) (inr h) = let r = before_level c i j x y h.1 in (suc r.0, (let e : r.0 ≤ c = r.1 in omega arith), (h.0, r.2))

pub level_before : (c l i j : ℕ) (x y : List ℤ) → AtLevel c l i j x y → Before c i j x y
level_before zero zero i j x y h = h
level_before zero (suc l) i j x y h = absurd h
level_before (suc c) l i j [] y h = absurd h
level_before (suc c) l i j (k ∷ x) [] h = absurd h
level_before (suc c) zero i j (k ∷ x) (m ∷ y) h = inl h
level_before (suc c) (suc l) i j (k ∷ x) (m ∷ y) h = inr (h.0, level_before c l i j x y h.1)
