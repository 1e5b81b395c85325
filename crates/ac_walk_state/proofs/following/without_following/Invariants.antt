use Rattle.std.proofs.Common.{take}
use Rattle.ac_walk_state.specs.RowRedundancy.{AreEnoughOn}
use Rattle.ac_walk_state.proofs.following.without_following.Given as goal

abbrev pub invariant-loop-row : goal.invariant-loop-row
invariant-loop-row l = AreEnoughOn l.equalities (take l.row-index l.rows) l.left
