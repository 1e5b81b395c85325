use Rattle.std.specs.Prelude.{reverse}
use Rattle.ac_unfold.proofs.TaskRuns.{UnderWay}
use Rattle.ac_unfold.proofs.unfolding.visit.Given as goal

abbrev pub invariant-loop-turn : goal.invariant-loop-turn
invariant-loop-turn l = UnderWay l.search l.fn.node (reverse l.tasks.items) l.plans.items l.fn.found_paths l.found_paths
