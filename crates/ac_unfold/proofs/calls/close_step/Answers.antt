use Rattle.std.proofs.Common.{rules}
use Rattle.ac_unfold.proofs.calls.close_step.Goals as goal

pub returns-clause-closes : goal.returns-clause-closes
returns-clause-closes c = record {
  plan = c.step_plan-plan.result;
  kind = record { follows = search rules; plans = c.replace-cases.result; plans_are = search rules; next_is = c.step_plan-plan.ensures.next };
  is = search rules;
}
