-- The greatest common divisor (Euclid, Elements VII.2), of two numbers and of a list.
use Rattle.std.specs.Int.{◌∣◌}
use Rattle.std.specs.Prelude.{ℕ, zero, suc, ◌%◌, ◌==◌, cond, List, [], ◌∷◌, ℤ, unsigned_abs}

-- Euclid's algorithm, in at most n steps
unfoldable pub gcd_within : ℕ → ℕ → ℕ → ℕ
gcd_within zero a b = a
gcd_within (suc n) a b = cond (b == 0) a (gcd_within n b (a % b))

-- the greatest common divisor of a and b, 0 where both are 0
unfoldable pub gcd : ℕ → ℕ → ℕ
gcd a b = gcd_within b a b

-- of d and the absolute values of a list
abbrev pub gcd_all : ℕ → List ℤ → ℕ
gcd_all d [] = d
gcd_all d (c ∷ cs) = gcd_all (gcd d (unsigned_abs c)) cs

-- the content of a list of coefficients: their greatest common divisor, 0 where all are 0
abbrev pub content : List ℤ → ℕ
content cs = gcd_all 0 cs

-- d divides each coefficient
abbrev pub DividesEach : ℕ → List ℤ → Type 0
DividesEach d [] = Unit {0}
DividesEach d (c ∷ cs) = (d ∣ unsigned_abs c) × DividesEach d cs
