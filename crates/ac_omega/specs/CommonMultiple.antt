-- The least common multiple (Euclid, Elements VII.34).
use Rattle.std.specs.Prelude.{ℕ}
use Rattle.std.specs.Int.{◌∣◌}

-- m is a multiple of both numbers, and divides each common multiple
abbrev pub IsLcm : ℕ → ℕ → ℕ → Type 0
IsLcm a b m = (a ∣ m) × (b ∣ m) × ((n : ℕ) → a ∣ n → b ∣ n → m ∣ n)
