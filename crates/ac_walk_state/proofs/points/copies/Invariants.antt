use Rattle.std.proofs.Common.{◌≡◌, take}
use Rattle.ac_walk_state.proofs.points.copies.Given as goal

abbrev pub invariant-loop-point : goal.invariant-loop-point
invariant-loop-point l = l.made ≡ take l.point-index l.points
