use Rattle.ac_unfold.specs.PiecePlans.{AreBegun}
use Rattle.ac_unfold.specs.EndResults.{nothing_found}
use Rattle.ac_unfold.specs.UnfoldPaths.{ArePlansOf}
use Rattle.ac_unfold.specs.BrokenPathResults.{AddsBroken, IsFrom}
use Rattle.ac_unfold.proofs.Starts.{Rights}
use Rattle.ac_unfold.proofs.starting.push_trees.Given as goal

abbrev pub invariant-loop-right : goal.invariant-loop-right
invariant-loop-right l = record {
  adds : AddsBroken l.search (IsFrom l.start) nothing_found l.found_paths;
  claim : ArePlansOf l.number l.trees.items;
  rights : Rights l.left l.right l.fn.trees.items l.trees.items;
  begun : AreBegun l.search l.start l.fn.trees.items → AreBegun l.search l.start l.trees.items;
}
