-- Sums of products, column by column, and combinations of lists. A list that ends first stands for zeros.
use Rattle.std.specs.Prelude.{ℤ, pos, ◌+ℤ◌, ◌*ℤ◌, List, [], ◌∷◌, map}
use Rattle.std.specs.Int.{int_div_euclid, int_rem_euclid}

-- the dot product: each coefficient times the coordinate of its column, added up
abbrev pub dot : List ℤ → List ℤ → ℤ
dot [] xs = pos 0
dot (c ∷ cs) [] = pos 0
dot (c ∷ cs) (x ∷ xs) = (c *ℤ x) +ℤ dot cs xs

-- the linear combination k xs + l ys, column by column
abbrev pub mix : ℤ → List ℤ → ℤ → List ℤ → List ℤ
mix k [] l [] = []
mix k [] l (y ∷ ys) = (l *ℤ y) ∷ mix k [] l ys
mix k (x ∷ xs) l [] = (k *ℤ x) ∷ mix k xs l []
mix k (x ∷ xs) l (y ∷ ys) = (k *ℤ x +ℤ l *ℤ y) ∷ mix k xs l ys

-- each number divided by d and rounded down
abbrev pub floored : ℤ → List ℤ → List ℤ
floored d = map (λ c. int_div_euclid c d)

-- each number taken modulo m, into 0, .., m - 1
abbrev pub residues : ℤ → List ℤ → List ℤ
residues m = map (λ c. int_rem_euclid c m)
