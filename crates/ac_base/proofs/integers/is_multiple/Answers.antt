use Rattle.ac_base.proofs.Divisors.{multiple_by_rest, multiple_of_zero}
use Rattle.ac_base.proofs.Bits.{again_128}
use Rattle.ac_base.proofs.integers.is_multiple.Goals as goal

pub returns-then-divisor-eq0 : goal.returns-then-divisor-eq0
returns-then-divisor-eq0 c =
    multiple_of_zero c.args.modulus c.args.number _ _ (rw (again_128 _ c.ranges.number) at c.unsigned_abs-size.ensures.value) (rw (again_128 _ c.ranges.modulus) at c.unsigned_abs-divisor.ensures.value) c.if-divisor-eq0.true

pub returns-else-divisor-eq0 : goal.returns-else-divisor-eq0
returns-else-divisor-eq0 c =
    multiple_by_rest c.args.modulus c.args.number _ _ (rw (again_128 _ c.ranges.number) at c.unsigned_abs-size.ensures.value) (rw (again_128 _ c.ranges.modulus) at c.unsigned_abs-divisor.ensures.value)
