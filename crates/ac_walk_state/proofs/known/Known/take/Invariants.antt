use Rattle.std.proofs.Common.{take}
use Rattle.ac_widen_programs.specs.PairPaths.{Unfolding}
use Rattle.ac_walk_state.specs.Growth.{ArePathsOf, IsGrowthOf}
use Rattle.ac_walk_state.proofs.known.Known.take.Given as goal

abbrev pub invariant-loop-at : goal.invariant-loop-at
invariant-loop-at l = (u : Unfolding) → ArePathsOf u l.template l.fn.self l.fn.from l.fn.paths → IsGrowthOf u l.template l.fn.self (take l.at l.fn.paths) l.growth
