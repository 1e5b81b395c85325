-- Divisibility of integers.
use Rattle.std.specs.Prelude.{ℕ, ℤ, unsigned_abs, Bool, ◌%◌, ◌==◌}
use Rattle.std.specs.Int.{◌∣◌}

-- m divides z, whatever their signs
abbrev pub IsMultiple : ℤ → ℤ → Type 0
IsMultiple m z = unsigned_abs m ∣ unsigned_abs z

-- the test whether d divides z, at a d that is not 0
abbrev pub divides : ℕ → ℤ → Bool
divides d z = (unsigned_abs z % d) == 0
