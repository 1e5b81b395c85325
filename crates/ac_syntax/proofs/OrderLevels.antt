-- One level of the order in which assignments are executed.
use Rattle.std.specs.Prelude.{ℕ, zero, suc, ◌<◌, ◌≡◌, List, [], ◌∷◌, ℤ, ◌<ℤ◌}

-- one level of this order: the first l common counters agree and the next rises, or all agree and the text decides
abbrev pub AtLevel : ℕ → ℕ → ℕ → ℕ → List ℤ → List ℤ → Type 0
AtLevel zero zero i j x y = i < j
AtLevel zero (suc l) i j x y = ⊥
AtLevel (suc c) l i j [] y = ⊥
AtLevel (suc c) l i j (k ∷ x) [] = ⊥
AtLevel (suc c) zero i j (k ∷ x) (m ∷ y) = k <ℤ m
AtLevel (suc c) (suc l) i j (k ∷ x) (m ∷ y) = (k ≡ m) × AtLevel c l i j x y
