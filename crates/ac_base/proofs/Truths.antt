-- What a test says of its parts.
use Rattle.std.proofs.Common.{◌≡◌, ◌↔◌, ℕ, ◌≤◌, ℤ, ◌≤ℤ◌, Bool, true, false, ◌&&◌, int_le, nat_le, refl, arith}
use Rattle.std.proofs.lemmas.Int.{ints}

pub and-true : (a b : Bool) → (a && b) ≡ true → (a ≡ true) × (b ≡ true)
and-true true b e = (refl, e)
and-true false b e = absurd cc

pub le-true : (a b : ℤ) → int_le a b ≡ true → a ≤ℤ b
le-true a b e = grind (arith, ints, e)

-- a test whose condition fails
pub test-false : {P : Type 0} (b : Bool) → (b ≡ true) ↔ P → ¬ P → b ≡ false
test-false true h n = absurd (n (h.0 refl))
test-false false h n = refl

pub true-le : (a b : ℤ) → a ≤ℤ b → int_le a b ≡ true
true-le a b h = grind (arith, ints, h)

pub true-nat_le : (a b : ℕ) → a ≤ b → nat_le a b ≡ true
true-nat_le a b h = grind (arith, h)
