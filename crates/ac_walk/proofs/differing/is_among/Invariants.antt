use Rattle.std.proofs.Common.{◌≡◌, take, false}
use Rattle.std.specs.Cmp.Lexicographic.{pointwise}
use Rattle.std.specs.Ordering.{int_eq}
use Rattle.std.specs.Set.{is_member}
use Rattle.ac_walk.proofs.differing.is_among.Given as goal

abbrev pub invariant-loop-other : goal.invariant-loop-other
invariant-loop-other l = is_member (pointwise int_eq) (take l.other-index l.valuations) l.at ≡ false
