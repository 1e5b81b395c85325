-- Sums of products as values of forms, and multiples as lists crossed with none.
use Rattle.std.proofs.Common.{◌≡◌, ℤ, pos, ◌+ℤ◌, ◌*ℤ◌, List, [], ◌∷◌, refl, ap, arith}
use Rattle.std.proofs.lemmas.Int.{ints}
use Rattle.ac_base.specs.Dot.{mix}
use Rattle.ac_widen.specs.Combinations.{times}
use Rattle.ac_base.proofs.Bits.{again_128}

pub plus_none : (x : ℤ) → x +ℤ pos 0 ≡ x
plus_none x = omega (arith, ints)

pub ruleset sum_steps = (plus_none, again_128)

pub mix_nil : (p r : ℤ) (xs : List ℤ) → mix p xs r [] ≡ times p xs
mix_nil p r [] = refl
mix_nil p r (x ∷ xs) = ap (λ t. (p *ℤ x) ∷ t) (mix_nil p r xs)

pub once : (x : ℤ) → pos 1 *ℤ x ≡ x
once x = omega (arith, ints)

pub ruleset times_steps = (mix_nil, once, again_128)
