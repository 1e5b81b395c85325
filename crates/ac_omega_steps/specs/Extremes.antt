-- The greatest and the least of a list of numbers, number by number.
use Rattle.std.specs.Prelude.{ℤ, List, [], ◌∷◌, Option, Some, None}
use Rattle.std.specs.Int.{int_max, int_min}

abbrev pub greater : Option ℤ → ℤ → ℤ
greater None v = v
greater (Some b) v = int_max b v

abbrev pub lesser : Option ℤ → ℤ → ℤ
lesser None v = v
lesser (Some b) v = int_min b v

-- the greatest of the numbers and of one that may be there
abbrev pub greatest_from : Option ℤ → List ℤ → Option ℤ
greatest_from best [] = best
greatest_from best (v ∷ vs) = greatest_from (Some (greater best v)) vs

-- the least of the numbers and of one that may be there
abbrev pub least_from : Option ℤ → List ℤ → Option ℤ
least_from best [] = best
least_from best (v ∷ vs) = least_from (Some (lesser best v)) vs
