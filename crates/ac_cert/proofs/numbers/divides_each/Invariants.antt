use Rattle.std.proofs.Common.{◌≡◌, drop}
use Rattle.ac_cert.specs.Rules.{divides_each}
use Rattle.ac_cert.proofs.numbers.divides_each.Given as goal

abbrev pub invariant-loop-number : goal.invariant-loop-number
invariant-loop-number l = divides_each l.fn.divisor l.numbers ≡ divides_each l.fn.divisor (drop l.number-index l.numbers)
