use Rattle.std.proofs.Common.{◌≡◌, true, take}
use Rattle.std.specs.List.{AllByRecursion}
use Rattle.ac_instance.specs.Events.{fits_64}
use Rattle.ac_instance.proofs.both.fit_64_bits.Given as goal

abbrev pub invariant-loop-value : goal.invariant-loop-value
invariant-loop-value l = AllByRecursion (λ v. fits_64 v ≡ true) (take l.value-index l.values)
