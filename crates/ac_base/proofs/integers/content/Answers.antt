use Rattle.std.proofs.Common.{rules, length, ◌≤◌, arith}
use Rattle.std.proofs.lemmas.Nat.Gcd.{dvd-zero}
use Rattle.ac_base.proofs.Divisors.{gcd_all_divides, divides_gcd_all}
use Rattle.ac_base.proofs.Contents.{content_end}
use Rattle.ac_base.proofs.integers.content.Goals as goal

pub returns-clause-divides : goal.returns-clause-divides
returns-clause-divides c =
    rw (content_end c.args.numbers.now c.loop-number.divisor c.loop-number.number-index c.loop-number.invariant (omega (arith, c.loop-number-test.false))) (gcd_all_divides 0 c.args.numbers.now).1

pub returns-clause-greatest : goal.returns-clause-greatest
returns-clause-greatest c d each =
    rw (content_end c.args.numbers.now c.loop-number.divisor c.loop-number.number-index c.loop-number.invariant (omega (arith, c.loop-number-test.false)))
    (divides_gcd_all d 0 c.args.numbers.now (dvd-zero d) each)
