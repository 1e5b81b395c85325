use Rattle.std.proofs.Common.{◌++◌, drop}
use Rattle.ac_omega_steps.specs.Choices.{shadows_with}
use Rattle.ac_omega_steps.specs.ChoiceFits.{shadows_fit_with}
use Rattle.ac_omega_steps.proofs.Parts.{Halfway}
use Rattle.ac_omega_steps.proofs.shadow.shadows_with.Given as goal

abbrev pub invariant-loop-high : goal.invariant-loop-high
invariant-loop-high l =
    Halfway (shadows_fit_with l.low l.highs) (l.fn.made ++ shadows_with l.low l.highs) (shadows_fit_with l.low (drop l.high-index l.highs)) l.made (shadows_with l.low (drop l.high-index l.highs))
