use Rattle.std.proofs.Common.{drop}
use Rattle.std.specs.List.{flat_map}
use Rattle.ac_claims.specs.CheckFeed.{Reaches, of_step}
use Rattle.ac_claims.proofs.check.feed_steps.Given as goal

abbrev pub invariant-loop-step : goal.invariant-loop-step
invariant-loop-step l = Reaches l.fn.stepper (flat_map of_step l.steps) l.stepper (flat_map of_step (drop l.step-index l.steps))
