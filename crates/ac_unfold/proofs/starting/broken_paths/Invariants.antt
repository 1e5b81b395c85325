use Rattle.ac_unfold.specs.EndResults.{nothing_found}
use Rattle.ac_unfold.specs.BrokenPathResults.{AddsBroken, IsFrom}
use Rattle.ac_unfold.proofs.Unbroken.{LeftsStand}
use Rattle.ac_unfold.proofs.starting.broken_paths.Given as goal

abbrev pub invariant-loop-left : goal.invariant-loop-left
invariant-loop-left l = record {
  adds : AddsBroken l.search (IsFrom l.start) nothing_found l.found_paths;
  stand : LeftsStand l.search l.start l.left l.rights nothing_found l.found_paths;
}
