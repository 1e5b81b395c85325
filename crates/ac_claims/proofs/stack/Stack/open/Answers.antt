use Rattle.std.proofs.Common.{◌++◌, ◌∷◌, ◌∙◌, ap}
use Rattle.ac_claims.specs.StackEntries.{all_dues}
use Rattle.ac_claims.specs.Machine.{PlanAt}
use Rattle.ac_claims.proofs.Entering.{all_dues_with}
use Rattle.ac_claims.proofs.stack.Stack.open.Goals as goal

pub returns-clause-ok : goal.returns-clause-ok
returns-clause-ok c =
    all_dues_with c.self.inside.ongoing c.push.new.self c.in_ok-plan.plan c.in_ok-push.ensures.ok
    ∙ ap (λ z. z ++ all_dues c.self.inside.ongoing) c.in_ok-plan.ensures.value
    ∙ ap (λ z. PlanAt c.args.path ∷ z) c.self.view_is
