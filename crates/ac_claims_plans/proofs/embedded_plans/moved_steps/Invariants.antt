use Rattle.std.proofs.Common.{◌≡◌, map, take}
use Rattle.ac_claims_plans.specs.Embeddings.{moved_step}
use Rattle.ac_claims_plans.proofs.embedded_plans.moved_steps.Given as goal

abbrev pub invariant-loop-step : goal.invariant-loop-step
invariant-loop-step l = l.moved ≡ map (moved_step l.embedding) (take l.step-index l.steps)
