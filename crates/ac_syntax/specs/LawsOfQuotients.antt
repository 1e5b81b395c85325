-- What quotients and tests of divisors mean, in words.
use Rattle.std.specs.Prelude.{◌≡◌, ◌↔◌, ℤ, pos, ◌*ℤ◌, ◌≤ℤ◌, true}
use Rattle.ac_base.specs.Multiple.{IsMultiple}
use Rattle.ac_syntax.specs.Index.{Point, quot_argument, quot_value, rel_holds}
use Rattle.ac_syntax.specs.Quotients.{same_quot}
use Rattle.ac_syntax.specs.declared.tree.Quot.{Quot}
use Rattle.ac_syntax.specs.declared.tree.Rel.TheVariants.{Divides}

-- the value of a quotient is the greatest integer whose product with the divisor is at most the form
abbrev pub QuotientsAreGreatest : Type 0
QuotientsAreGreatest =
    (p : Point) (q : Quot) → pos 1 ≤ℤ q.div
    → ((q.div *ℤ quot_value p q) ≤ℤ quot_argument p q) × ((k : ℤ) → (q.div *ℤ k) ≤ℤ quot_argument p q → k ≤ℤ quot_value p q)

-- a test of a divisor holds exactly at its multiples
abbrev pub DivisorsAreTested : Type 0
DivisorsAreTested = (m z : ℤ) → (rel_holds (Divides m) z ≡ true) ↔ IsMultiple m z

-- quotients that are noted as one have one value
abbrev pub SameQuotientsHaveOneValue : Type 0
SameQuotientsHaveOneValue = (p : Point) (a b : Quot) → same_quot a b ≡ true → quot_value p a ≡ quot_value p b
