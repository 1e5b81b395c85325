use Rattle.std.proofs.Common.{drop}
use Rattle.std.specs.List.{flat_map}
use Rattle.ac_claims.specs.CheckFeed.{of_step}
use Rattle.ac_prooftext.proofs.LineProgress.{Leads}
use Rattle.ac_prooftext.proofs.plan_text.write_steps.Given as goal

abbrev pub invariant-loop-step : goal.invariant-loop-step
invariant-loop-step l = Leads l.fn.text (flat_map of_step l.steps) l.text (flat_map of_step (drop l.step-index l.steps))
