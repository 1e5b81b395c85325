use Rattle.std.proofs.Common.{◌≡◌, drop}
use Rattle.ac_cert.specs.Rules.{all_zero}
use Rattle.ac_cert.proofs.numbers.is_all_zero.Given as goal

abbrev pub invariant-loop-number : goal.invariant-loop-number
invariant-loop-number l = all_zero l.numbers ≡ all_zero (drop l.number-index l.numbers)
