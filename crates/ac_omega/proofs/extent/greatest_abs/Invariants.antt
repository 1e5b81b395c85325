use Rattle.std.proofs.Common.{◌≡◌, drop}
use Rattle.ac_omega.specs.Maxima.{greatest_abs}
use Rattle.ac_omega.proofs.extent.greatest_abs.Given as goal

abbrev pub invariant-loop-number : goal.invariant-loop-number
invariant-loop-number l = greatest_abs l.start l.numbers ≡ greatest_abs l.greatest (drop l.number-index l.numbers)
