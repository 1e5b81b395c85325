use Rattle.std.proofs.Common.{◌≡◌, ◌++◌, drop, length}
use Rattle.ac_walk_state.specs.PathEntries.{steps_from}
use Rattle.ac_walk_state.proofs.entering.with_steps.Given as goal

abbrev pub invariant-loop-step : goal.invariant-loop-step
invariant-loop-step l = l.fn.entries ++ steps_from l.fn.from (length l.fn.entries) l.steps ≡ l.all ++ steps_from l.from (length l.all) (drop l.step-index l.steps)
