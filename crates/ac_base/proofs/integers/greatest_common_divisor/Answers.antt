use Rattle.std.proofs.lemmas.Nat.Gcd.{IsGcd-from_zero}
use Rattle.ac_base.proofs.Divisors.{gcd_is}
use Rattle.ac_base.proofs.integers.greatest_common_divisor.Goals as goal

pub returns-clause-value : goal.returns-clause-value
returns-clause-value c = gcd_is _ _ _ (c.loop-y.invariant _ (IsGcd-from_zero _ _ c.loop-y-test.false))

pub returns-clause-greatest : goal.returns-clause-greatest
returns-clause-greatest c = c.loop-y.invariant _ (IsGcd-from_zero _ _ c.loop-y-test.false)
