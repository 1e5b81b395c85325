use Rattle.std.proofs.Common.{◌≡◌, ◌++◌, take, map}
use Rattle.ac_sets.specs.SetIntersections.{common}
use Rattle.ac_sets.proofs.unions.push_common.Given as goal

abbrev pub invariant-loop-other : goal.invariant-loop-other
invariant-loop-other l = l.pieces ≡ l.fn.pieces ++ map (common l.visible l.piece) (take l.other-index l.others)
