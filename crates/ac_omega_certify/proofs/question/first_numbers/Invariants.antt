use Rattle.std.proofs.Common.{◌≡◌, ◌++◌, ◌-◌}
use Rattle.ac_omega_certify.specs.ChoiceBranches.{numbers_from}
use Rattle.ac_omega_certify.proofs.question.first_numbers.Given as goal

abbrev pub invariant-loop-i : goal.invariant-loop-i
invariant-loop-i l = l.numbers.items ++ numbers_from l.i (l.count - l.i) ≡ numbers_from 0 l.count
