use Rattle.std.proofs.Common.{◌≡◌, take}
use Rattle.ac_widen_programs.specs.PairPathEnds.{entries_at}
use Rattle.ac_unfold.specs.UnfoldPaths.{IsPath}
use Rattle.ac_unfold.proofs.breaks.entries.Given as goal

abbrev pub invariant-loop-pair : goal.invariant-loop-pair
invariant-loop-pair l = record {
  path : IsPath l.made;
  exact : l.made ≡ entries_at l.params l.point (take l.pair-index l.pair_path);
}
