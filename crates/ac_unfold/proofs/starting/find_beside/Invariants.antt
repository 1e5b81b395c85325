use Rattle.ac_unfold.specs.BrokenPathResults.{AddsBroken, IsFrom}
use Rattle.ac_unfold.proofs.Unbroken.{RightsStand}
use Rattle.ac_unfold.proofs.starting.find_beside.Given as goal

abbrev pub invariant-loop-right : goal.invariant-loop-right
invariant-loop-right l = record {
  adds : AddsBroken l.search (IsFrom l.start) l.fn.found_paths l.found_paths;
  stand : RightsStand l.search l.start l.left l.right l.fn.found_paths l.found_paths;
}
