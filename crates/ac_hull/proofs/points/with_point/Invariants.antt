use Rattle.std.proofs.Common.{◌≡◌, take}
use Rattle.ac_hull.proofs.points.with_point.Given as goal

abbrev pub invariant-loop-member : goal.invariant-loop-member
invariant-loop-member l = l.points ≡ take l.member-index l.members
