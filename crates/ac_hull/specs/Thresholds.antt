-- Where the bounds of a claim may stop, and the moduli of its residue classes: numbers at those of two programs' texts.
use Rattle.std.specs.Prelude.{ℤ, pos, neg_ℤ, ◌+ℤ◌, ◌-ℤ◌, List, [], ◌∷◌, ◌++◌, ◌&&◌, nat_le, unsigned_abs, if◌then◌else◌}
use Rattle.std.specs.List.{flat_map}
use Rattle.ac_syntax.specs.declared.tree.Pair.{Pair}
use Rattle.ac_hull.specs.ProgramConstants.{numbers_of_pair}
use Rattle.ac_hull.specs.declared.collected.Collected.{Collected}
use Rattle.ac_hull.specs.declared.collected.Collected.TheVariants.{Constant, Coefficient, Divisor, Step}

-- the number and those beside it
abbrev pub beside : ℤ → List ℤ
beside k = (k -ℤ pos 1) ∷ k ∷ (k +ℤ pos 1) ∷ []

-- the number and its opposite, and those beside both
abbrev pub near : ℤ → List ℤ
near k = beside k ++ beside (neg_ℤ k)

abbrev pub thresholds_at : Collected → List ℤ
thresholds_at (Constant k) = near k
thresholds_at (Coefficient c) = []
thresholds_at (Divisor d) = near d
thresholds_at (Step s) = near (pos (unsigned_abs s))

-- near 0 and 1, the constants of the forms, the divisors, and the absolute values of the steps
abbrev pub threshold_candidates : Pair → List ℤ
threshold_candidates pair = near (pos 0) ++ (near (pos 1) ++ flat_map thresholds_at (numbers_of_pair pair))

-- the absolute value, as far as it is from 2 to 16
abbrev pub small_size : ℤ → List ℤ
small_size n = if nat_le 2 (unsigned_abs n) && nat_le (unsigned_abs n) 16 then pos (unsigned_abs n) ∷ [] else []

abbrev pub modulus_at : Collected → List ℤ
modulus_at (Constant k) = []
modulus_at (Coefficient c) = small_size c
modulus_at (Divisor d) = small_size d
modulus_at (Step s) = small_size s

-- those of the coefficients, of the divisors and of the steps
abbrev pub modulus_candidates : Pair → List ℤ
modulus_candidates pair = flat_map modulus_at (numbers_of_pair pair)
