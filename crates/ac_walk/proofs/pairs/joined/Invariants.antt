use Rattle.std.proofs.Common.{◌≡◌, ◌++◌, take}
use Rattle.ac_walk.proofs.pairs.joined.Given as goal

abbrev pub invariant-loop-pair : goal.invariant-loop-pair
invariant-loop-pair l = l.made ≡ l.pairs ++ take l.pair-index l.more
