use Rattle.ac_unfold.specs.PiecePlans.{AreBegun}
use Rattle.ac_unfold.specs.UnfoldPaths.{ArePlansOf}
use Rattle.ac_unfold.proofs.Starts.{Lefts}
use Rattle.ac_unfold.proofs.starting.claim_trees.Given as goal

abbrev pub invariant-loop-left : goal.invariant-loop-left
invariant-loop-left l = record {
  claim : ArePlansOf l.number l.trees.items;
  lefts : Lefts l.counts.1 l.left l.trees.items;
  begun : AreBegun l.search l.start l.trees.items;
}
