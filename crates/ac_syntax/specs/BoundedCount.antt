-- A count that may leave 64 bits.
use Rattle.std.specs.Prelude.{ℕ, ◌≡◌, ◌≤◌, ◌^◌, Option, Some, None}

-- the number, or none exactly where it leaves 64 bits
abbrev pub Gives : Option ℕ → ℕ → Type 0
Gives (Some m) n = m ≡ n
Gives None n = 2 ^ 64 ≤ n
