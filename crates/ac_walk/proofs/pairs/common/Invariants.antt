use Rattle.std.proofs.Common.{take}
use Rattle.ac_walk.proofs.Widened.{AreCommon}
use Rattle.ac_walk.proofs.pairs.common.Given as goal

abbrev pub invariant-loop-pair : goal.invariant-loop-pair
invariant-loop-pair l = AreCommon (take l.pair-index l.pairs) l.others l.made
