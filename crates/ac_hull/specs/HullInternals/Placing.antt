-- A number put into its place among numbers in order.
use Rattle.std.specs.Prelude.{ℕ, ℤ, List, [], ◌∷◌, take, nat_lt, if◌then◌else◌}
use Rattle.std.specs.Ordering.{int_eq}
use Rattle.ac_hull.specs.SmallestIntegers.{rank}

abbrev pub placed : ℤ → List ℤ → List ℤ
placed x [] = x ∷ []
placed x (y ∷ ys) = if nat_lt (rank y) (rank x) then y ∷ placed x ys else (if int_eq y x then y ∷ ys else x ∷ y ∷ ys)

-- up to a limit
abbrev pub inserted : ℕ → ℤ → List ℤ → List ℤ
inserted limit x xs = take limit (placed x xs)
