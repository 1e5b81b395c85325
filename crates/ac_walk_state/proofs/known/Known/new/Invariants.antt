use Rattle.std.proofs.Common.{take}
use Rattle.ac_walk_state.specs.FreshRecurrencePairs.{HaveWideningPoints}
use Rattle.ac_walk_state.proofs.known.Known.new.Given as goal

abbrev pub invariant-loop-pair : goal.invariant-loop-pair
invariant-loop-pair l = HaveWideningPoints l.programs (take l.pair-index l.pairs) l.widening_points.items
